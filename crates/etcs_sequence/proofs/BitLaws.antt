-- Lemmas about specs/BitLaws.antt.
use Rattle.std.proofs.Common.{◌≡◌, ℕ, zero, suc, ◌<◌, Bool, true, false, List, [], ◌∷◌, length, refl, sym, ap, ◌∙◌, arith}
use Rattle.std.specs.Prelude.{map, ◌==◌}
use Rattle.etcs_bits.specs.Bits.{num, bits, part}
use Rattle.etcs_vars.specs.declared.var.Var.{Var}
use Rattle.etcs_vars.specs.Vars.{width}
use Rattle.etcs_vars.specs.Reading.{Sent, Reading, spelled, kept}
use Rattle.etcs_vars.proofs.Languages.{Same}
use Rattle.etcs_sequence.specs.BitLaws.{BitsLeft}
use Rattle.etcs_sequence.specs.laws.BitLaws.{bits_spelled}

-- ---- Their numbers.

bits_back : (v : Var) (a : List Bool) → map (λ (p : Sent). p.1 == 1) (kept v a) ≡ a
bits_back v [] = refl
bits_back v (true ∷ a) = ap (λ (s : List Bool). true ∷ s) (bits_back v a)
bits_back v (false ∷ a) = ap (λ (s : List Bool). false ∷ s) (bits_back v a)

-- they follow from their reading
pub bits_known : (v : Var) (a b : List Bool) → kept v a ≡ kept v b → a ≡ b
bits_known v a b e = sym (bits_back v a) ∙ ap (λ (r : Reading). map (λ (p : Sent). p.1 == 1) r) e ∙ bits_back v b

pub bits_length : (v : Var) (b : List Bool) → width v ≡ 1 → length (spelled (kept v b)) ≡ length b
bits_length v b w = ap length (bits_spelled v b w)

-- a bit of a byte that is one or zero
pub byte_bit : (n : ℕ) → n < 2 → part 7 1 (bits (n ∷ [])) ≡ (n == 1) ∷ []
unfolding num bits
byte_bit zero h = refl
byte_bit (suc zero) h = refl
byte_bit (suc (suc n)) h = absurd (omega arith)

pub bit_read : (v : Var) (n : ℕ) → n < 2 → ◌≡◌ {A = Reading} (kept v ((n == 1) ∷ [])) ((v, n) ∷ [])
bit_read v zero h = refl
bit_read v (suc zero) h = refl
bit_read v (suc (suc n)) h = absurd (omega arith)

pub byte_read : (v : Var) (n : ℕ) (t : List Bool) → n < 2 → t ≡ part 7 1 (bits (n ∷ [])) → ◌≡◌ {A = Reading} (kept v t) ((v, n) ∷ [])
byte_read v n t h e = ap (kept v) (e ∙ byte_bit n h) ∙ bit_read v n h

-- and as a number of one bit
pub bit_number : (v : Var) (n : ℕ) → n < 2 → ◌≡◌ {A = Reading} (kept v (num 1 n)) ((v, n) ∷ [])
unfolding num
bit_number v zero h = refl
bit_number v (suc zero) h = refl
bit_number v (suc (suc n)) h = absurd (omega arith)

-- ---- What is left of them.

-- no bits are left
pub no_bits : (v : Var) → Same (BitsLeft v 0) (λ r. r ≡ [])
no_bits v r = (λ (b, l, e). none b r l e, λ e. ([], refl, e))
  where
    none : (b : List Bool) (r : Reading) → length b ≡ 0 → r ≡ kept v b → r ≡ []
    none [] r l e = e
    none (x ∷ b) r l e = absurd (omega (arith, l))
