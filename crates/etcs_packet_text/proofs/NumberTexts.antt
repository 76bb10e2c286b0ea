-- Numbers of variables as text.
use Rattle.std.proofs.Common.{◌≡◌, ℕ, suc, ◌/◌, ◌%◌, List, [], ◌∷◌, ◌++◌, sym, ap, ◌∙◌, append_assoc}
use Rattle.etcs_packet_text.specs.Show.{hex_digit, hex_digits}

-- one more digit of a number in hexadecimal
pub hex_more : (below count n digit : ℕ) (old front out : List ℕ) → count ≡ suc below → front ≡ old ++ hex_digits below (n / 16) → digit ≡ hex_digit (n % 16) → out ≡ front ++ digit ∷ [] → out ≡ old ++ hex_digits count n
hex_more below count n digit old front out same e d f =
    f
    ∙ ap (λ (z : List ℕ). z ++ digit ∷ []) e
    ∙ append_assoc old (hex_digits below (n / 16)) (digit ∷ [])
    ∙ ap (λ (x : ℕ). old ++ (hex_digits below (n / 16) ++ x ∷ [])) d
    ∙ ap (λ (k : ℕ). old ++ hex_digits k n) (sym same)
