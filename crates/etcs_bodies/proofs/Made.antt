-- What is made, where something is.
use Rattle.std.specs.Prelude.{Option, None, Some, Result, Ok, Err, IfOk, IfSome}

pub made_is : {Q E : Type 0} {A B : Q → Type 0} → (result : Result (Option Q) E) → IfOk result (λ o. IfSome o A) → ((q : Q) → A q → B q) → IfOk result (λ o. IfSome o B)
made_is (Ok None) h f = tt
made_is (Ok (Some q)) h f = f q h
made_is (Err e) h f = tt
