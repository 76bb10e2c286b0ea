-- A text of digits is of one list of bits.
use Rattle.std.proofs.Common.{◌≡◌, ◌+◌, ◌<◌, ℕ, Bool, true, false, List, [], ◌∷◌, length, get_or, refl, ap, ◌∙◌, arith}
use Rattle.std.proofs.lemmas.List.{get_or-map, length-map}
use Rattle.etcs_bits.specs.Bits.{bit}
use Rattle.etcs_bits.specs.Texts.{digits}

one_bit : (a b : Bool) → 48 + bit a ≡ 48 + bit b → a ≡ b
one_bit true true e = refl
one_bit true false e = absurd (omega (arith, e))
one_bit false true e = absurd (omega (arith, e))
one_bit false false e = refl

pub one_bits : (a b : List Bool) → digits a ≡ digits b → a ≡ b
one_bits [] [] e = refl
one_bits [] (y ∷ b) e = absurd cc
one_bits (x ∷ a) [] e = absurd cc
one_bits (x ∷ a) (y ∷ b) e =
    let first : 48 + bit x ≡ 48 + bit y = cc in
    let rest : digits a ≡ digits b = cc in
    let f = one_bit x y first in
    let r = one_bits a b rest in
    cc

pub not_bit : (text : List ℕ) (i c : ℕ) (b : List Bool) → i < length text → c ≡ get_or text i 0 → text ≡ digits b → ((x : Bool) → c ≡ 48 + bit x → ⊥) → ⊥
not_bit text i c b inside at e other =
    let l = length-map b (λ x. 48 + bit x) in
    let there : i < length b = omega (arith, l, ap length e) in
    other (get_or b i true) (at ∙ ap (λ (z : List ℕ). get_or z i 0) e ∙ get_or-map (λ x. 48 + bit x) b i true 0 there)
