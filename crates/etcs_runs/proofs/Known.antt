-- Known bytes that are read or written one text after another.
use Rattle.std.proofs.Common.{◌≡◌, ℕ, zero, suc, ◌+◌, ◌-◌, ◌<◌, List, [], ◌∷◌, ◌++◌, Option, Some, None, Result, Ok, Err, length, take, drop, refl, sym, ap, subst, ◌∙◌, append_assoc, length-append, length-drop, arith}
use Rattle.std.proofs.Math.Seq.{take-add}
use Rattle.std.proofs.lemmas.List.{append-nil, take_rest, take-append-le}
use Rattle.std.specs.Io.{ReadsAtMost}
use Rattle.std.specs.Io.KnownBytes.{Appends, Consumes, Keeps, ReadConsumes}
use Rattle.etcs_runs.specs.Ends.{failed_writes}

pub Appends-none : (u : Option (List ℕ)) → Appends u u []
Appends-none None = tt
Appends-none (Some xs) = sym (append-nil xs)

pub Consumes-none : (u : Option (List ℕ)) → Consumes u u []
Consumes-none None = tt
Consumes-none (Some xs) = refl

pub Appends-then : (u v w : Option (List ℕ)) (a b : List ℕ) → Appends u v a → Appends v w b → Appends u w (a ++ b)
Appends-then None v w a b x y = tt
Appends-then (Some xs) None w a b x y = absurd x
Appends-then (Some xs) (Some ys) None a b x y = y
Appends-then (Some xs) (Some ys) (Some zs) a b x y = y ∙ ap (λ (t : List ℕ). t ++ b) x ∙ append_assoc xs a b

pub Consumes-then : (u v w : Option (List ℕ)) (a b : List ℕ) → Consumes u v a → Consumes v w b → Consumes u w (a ++ b)
Consumes-then None v w a b x y = tt
Consumes-then (Some xs) None w a b x y = absurd x
Consumes-then (Some xs) (Some ys) None a b x y = y
Consumes-then (Some xs) (Some ys) (Some zs) a b x y = x ∙ ap (λ (t : List ℕ). a ++ t) y ∙ sym (append_assoc a b zs)

pub Consumes-kept : (u v w : Option (List ℕ)) (a : List ℕ) → Consumes u v a → Keeps v w → Consumes u w a
Consumes-kept None v w a x y = tt
Consumes-kept (Some xs) None w a x y = absurd x
Consumes-kept (Some xs) (Some ys) None a x y = absurd y
Consumes-kept (Some xs) (Some ys) (Some zs) a x y = x ∙ ap (λ (t : List ℕ). a ++ t) (sym y)

-- the next bytes of a text
pub Appends-slice : (u v w : Option (List ℕ)) (text : List ℕ) (at n m : ℕ) → m ≡ length text → Appends u v (take at text) → Appends v w (take n (take (m - at) (drop at text))) → Appends u w (take (at + n) text)
Appends-slice u v w text at n m e x y =
    let rest : take (m - at) (drop at text) ≡ drop at text = ap (λ k. take (k - at) (drop at text)) e ∙ take_rest text at in
    let y' : Appends v w (take n (drop at text)) = subst (λ z. Appends v w (take n z)) rest y in
    subst (λ z. Appends u w z) (sym (take-add at n text)) (Appends-then u v w (take at text) (take n (drop at text)) x y')

-- a write that took some bytes is no failure
pub wrote_some : (E : Type 0) (n : ℕ) (piece : List ℕ) → (n ≡ 0 → ⊥) → failed_writes {E = E} (Ok n) piece ≡ 0
wrote_some E zero piece h = absurd (h refl)
wrote_some E (suc n) [] h = refl
wrote_some E (suc n) (x ∷ xs) h = refl

-- a read to the front of a buffer is one to the whole buffer
pub front_bound : {E : Type 0} (r : Result ℕ E) (front rest : List ℕ) → ReadsAtMost r front → ReadsAtMost r (front ++ rest)
front_bound (Ok n) front rest h = (omega (arith, h.0, length-append front rest), h.1 ∙ ap length (sym (take-append-le n front rest h.0)))
front_bound (Err e) front rest h = tt

pub front_consumes : {E : Type 0} (u v : Option (List ℕ)) (r : Result ℕ E) (front rest : List ℕ) → 0 < length front → ReadsAtMost r front → ReadConsumes u v r front → ReadConsumes u v r (front ++ rest)
front_consumes u v (Ok n) front rest some h read = (subst (Consumes u v) (sym (take-append-le n front rest h.0)) read.0, λ none _. read.1 none some)
front_consumes u v (Err e) front rest some h read = read

pub length-rest : (text : List ℕ) (at : ℕ) → length (take (length text - at) (drop at text)) ≡ length text - at
length-rest text at = ap length (take_rest text at) ∙ length-drop at text
