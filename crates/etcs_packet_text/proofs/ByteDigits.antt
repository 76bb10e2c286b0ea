-- The table of the digits of each byte's bits.
use Rattle.std.proofs.Common.{◌≡◌, ℕ, zero, suc, ◌+◌, ◌<◌, List, [], ◌∷◌, map, get_or, refl, ap, ◌∙◌, arith}
use Rattle.etcs_bits.specs.Bits.{num}
use Rattle.etcs_packet_text.specs.Show.{bit_digit}
use Rattle.etcs_packet_text.specs.declared.page.bits.TheConstants.{BYTES}

digits_from : ℕ → ℕ → List (List ℕ)
digits_from from zero = []
digits_from from (suc n) = map bit_digit (num 8 from) ∷ digits_from (from + 1) n

digits_at : (none : List ℕ) (from n k : ℕ) → k < n → get_or (digits_from from n) k none ≡ map bit_digit (num 8 (from + k))
unfolding digits_from
digits_at none from zero k h = absurd (omega (arith, h))
digits_at none from (suc n) zero h = ap (λ (b : ℕ). map bit_digit (num 8 b)) (omega arith)
digits_at none from (suc n) (suc k) h = digits_at none (from + 1) n k (omega (arith, h)) ∙ ap (λ (b : ℕ). map bit_digit (num 8 b)) (omega arith)

table_is : BYTES ≡ digits_from 0 256
unfolding digits_from num
table_is = refl

pub byte_digits : (none : List ℕ) (b : ℕ) → b < 256 → get_or BYTES b none ≡ map bit_digit (num 8 b)
byte_digits none b small = ap (λ (t : List (List ℕ)). get_or t b none) table_is ∙ digits_at none 0 256 b small ∙ ap (λ (k : ℕ). map bit_digit (num 8 k)) (omega arith)
