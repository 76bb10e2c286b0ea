-- Texts that need no escapes in JSON.
use Rattle.std.proofs.Common.{◌≡◌, ℕ, zero, suc, ◌+◌, ◌<◌, ◌≤◌, ◌/◌, ◌%◌, Bool, true, false, List, [], ◌∷◌, ◌++◌, map, refl, ap, ◌∙◌, arith, append_assoc}
use Rattle.std.specs.Prelude.{nat_lt, if◌then◌else◌}
use Rattle.std.proofs.lemmas.Bool.{ltb-false}
use Rattle.std.proofs.lemmas.Grind.{flat_map-append}
use Rattle.json.specs.Print.{escape, escape_byte, quoted}
use Rattle.json.proofs.Printed.Strings.{escape_byte_plain}
use Rattle.etcs_packet_text.specs.Show.{bit_digit, hex_digit, hex_digits}

plain_digit : (d : ℕ) (low : Bool) → d < 16 → nat_lt d 10 ≡ low → escape_byte (if low then 48 + d else 87 + d) ≡ (if low then 48 + d else 87 + d) ∷ []
plain_digit d true h e = escape_byte_plain (48 + d) (λ x. omega arith) (λ x. omega (arith, h)) (omega arith)
plain_digit d false h e = let big : 10 ≤ d = ltb-false d 10 e in escape_byte_plain (87 + d) (λ x. omega arith) (λ x. omega arith) (omega arith)

pub plain_hex : (count n : ℕ) → escape (hex_digits count n) ≡ hex_digits count n
plain_hex zero n = refl
plain_hex (suc count) n =
    flat_map-append escape_byte (hex_digits count (n / 16)) (hex_digit (n % 16) ∷ [])
    ∙ (λ i. plain_hex count (n / 16) i ++ (plain_digit (n % 16) (nat_lt (n % 16) 10) (omega arith) refl i ++ []))

pub plain_bits : (bs : List Bool) → escape (map bit_digit bs) ≡ map bit_digit bs
unfolding escape_byte
plain_bits [] = refl
plain_bits (true ∷ bs) = ap (λ (z : List ℕ). 49 ∷ z) (plain_bits bs)
plain_bits (false ∷ bs) = ap (λ (z : List ℕ). 48 ∷ z) (plain_bits bs)

-- such a text in quotes, and more after it
pub quoted_plain : (text rest : List ℕ) → escape text ≡ text → quoted text ++ rest ≡ 34 ∷ (text ++ 34 ∷ rest)
quoted_plain text rest e = ap (λ (z : List ℕ). 34 ∷ z) (append_assoc (escape text) (34 ∷ []) rest ∙ ap (λ (z : List ℕ). z ++ 34 ∷ rest) e)

pub quoted_bits : (bs : List Bool) (rest : List ℕ) → quoted (map bit_digit bs) ++ rest ≡ 34 ∷ (map bit_digit bs ++ 34 ∷ rest)
quoted_bits bs rest = quoted_plain (map bit_digit bs) rest (plain_bits bs)
