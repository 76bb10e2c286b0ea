-- Bits read one after another.
use Rattle.std.proofs.Common.{◌≡◌, ℕ, ◌+◌, ◌<◌, nat_eq, Bool, true, false, List, [], ◌∷◌, length, take, drop, Some, refl, sym, ap, ◌∙◌, inl, inr, arith}
use Rattle.std.proofs.lemmas.Bool.{cases_lt}
use Rattle.std.proofs.lemmas.List.{length-drop, drop-drop}
use Rattle.etcs_bits.specs.Bits.{value, part, number_at}
use Rattle.etcs_bits.proofs.Positions.{number_past, number_inside}

-- the number of the first bit
one_bit : (bs : List Bool) (n : ℕ) → 0 < length bs → value (take 1 bs) ≡ n → bs ≡ nat_eq n 1 ∷ drop 1 bs
one_bit [] n some h = absurd (omega arith)
one_bit (true ∷ bs) n some h = cc
one_bit (false ∷ bs) n some h = cc

-- a number of one bit is the first of the bits that are left
pub first_bit : (bs : List Bool) (i n : ℕ) → number_at i 1 bs ≡ Some n → drop i bs ≡ nat_eq n 1 ∷ drop (i + 1) bs
first_bit bs i n h =
    elim (cases_lt i (length bs)) [
      | inl inside ↦
          let some : Some (value (part i 1 bs)) ≡ Some n = number_inside i 1 bs (value (part i 1 bs)) (omega arith) refl ∙ h in
          let number : value (take 1 (drop i bs)) ≡ n = cc in
          let first = one_bit (drop i bs) n (omega (arith, length-drop i bs)) number in
          first ∙ ap (λ (l : List Bool). nat_eq n 1 ∷ l) (drop-drop 1 i bs)
      | inr past ↦
          let none = sym (number_past i 1 bs (omega arith)) ∙ h in
          absurd cc
    ]
