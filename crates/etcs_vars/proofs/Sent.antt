-- The bits of variables that are sent one after another.
use Rattle.std.proofs.Common.{◌≡◌, ℕ, ◌+◌, ◌-◌, false, [], ◌∷◌, ◌++◌, length, ap, ◌∙◌, arith, ltb}
use Rattle.std.proofs.lemmas.Bool.{le-ltb}
use Rattle.std.proofs.lemmas.List.{length-append}
use Rattle.etcs_bits.specs.Bits.{num}
use Rattle.etcs_bits.proofs.Numbers.{length-num}
use Rattle.etcs_vars.specs.declared.var.Var.{Var}
use Rattle.etcs_vars.specs.Vars.{width}
use Rattle.etcs_vars.specs.Reading.{Reading, spelled, holder}

pub length-sent : (v : Var) (n : ℕ) (r : Reading) → length (spelled ((v, n) ∷ r)) ≡ width v + length (spelled r)
length-sent v n r = length-append (num (width v) n) (spelled r) ∙ ap (λ j. j + length (spelled r)) (length-num (width v) n)

-- who holds a bit of what is after p holds it there
pub holder-append : (p q : Reading) (k : ℕ) → holder (p ++ q) (length (spelled p) + k) ≡ holder q k
holder-append [] q k = ap (holder q) (let t : 0 + k ≡ k = omega arith in t)
holder-append ((v, n) ∷ p) q k =
    let l = length-sent v n p in
    let t : ltb (length (spelled ((v, n) ∷ p)) + k) (width v) ≡ false = le-ltb _ _ (omega (arith, l)) in
    let i : length (spelled ((v, n) ∷ p)) + k - width v ≡ length (spelled p) + k = omega (arith, l) in
    rw (t, i) (holder-append p q k)
