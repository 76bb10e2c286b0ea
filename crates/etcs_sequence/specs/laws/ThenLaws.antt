-- What the reader asks of one language after another.
use Rattle.std.proofs.Common.{◌++◌, ap, ◌∙◌}
use Rattle.etcs_vars.specs.declared.var.Var.{Var}
use Rattle.etcs_vars.specs.Reading.{Reading, Then}
use Rattle.etcs_vars.proofs.Apart.{Then-agree, Then-fit}
use Rattle.etcs_vars.proofs.Walk.{Regular}
use Rattle.etcs_reader.specs.Rests.{BeginsWith}

pub then_regular : (P Q : Reading → Type 0) → Regular P → Regular Q → Regular (Then P Q)
then_regular P Q p q = record { agree = Then-agree P Q P Q p.agree q.agree; fit = Then-fit P Q p.fit q.fit }

-- ---- While a variable of the first comes next.

pub then_begins_with : (P Q : Reading → Type 0) (x : Var) → BeginsWith P x → BeginsWith (Then P Q) x
then_begins_with P Q x p r (u, v, f, hu, hv) = let (n, u', g) = p u hu in (n, u' ++ v, f ∙ ap (λ (t : Reading). t ++ v) g)
