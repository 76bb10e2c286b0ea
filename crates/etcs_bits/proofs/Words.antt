-- Eight bytes as one number.
use Rattle.std.proofs.Common.{◌≡◌, ℕ, ◌+◌, ◌-◌, ◌*◌, ◌/◌, ◌%◌, ◌^◌, ◌<◌, ◌≤◌, List, [], ◌∷◌, length, take, get_or, refl, sym, ap, ◌∙◌, arith}
use Rattle.std.specs.Int.{from_be_bytes, w64}
use Rattle.std.proofs.lemmas.Nat.{field_of, shl-shr, shr-shr}
use Rattle.etcs_bits.specs.Bits.{num, value, bits, part}
use Rattle.etcs_bits.proofs.Numbers.{num-value, value-append, value-num, value-num_low}
use Rattle.etcs_bits.proofs.Positions.{length-bits}
use Rattle.etcs_bits.proofs.Lists.{length-part, part-part}
use Rattle.etcs_bits.proofs.ByteBits.{num_part}
use Rattle.etcs_bits.proofs.Owned.{bits-take}

-- the number in bytes, the first one's part in front
pub value-bytes : (b : ℕ) (bytes : List ℕ) → b < 2 ^ 8 → value (bits (b ∷ bytes)) ≡ b * 2 ^ (8 * length bytes) + value (bits bytes)
unfolding bits
value-bytes b bytes h =
    value-append (num 8 b) (bits bytes)
    ∙ ap (λ k. k * 2 ^ length (bits bytes) + value (bits bytes)) (value-num 8 b h)
    ∙ ap (λ k. b * 2 ^ k + value (bits bytes)) (length-bits bytes)

pub value-eight : (a b c d e f g h : ℕ) → a < 2 ^ 8 → b < 2 ^ 8 → c < 2 ^ 8 → d < 2 ^ 8 → e < 2 ^ 8 → f < 2 ^ 8 → g < 2 ^ 8 → h < 2 ^ 8 → from_be_bytes w64 (a ∷ b ∷ c ∷ d ∷ e ∷ f ∷ g ∷ h ∷ []) ≡ value (bits (a ∷ b ∷ c ∷ d ∷ e ∷ f ∷ g ∷ h ∷ []))
unfolding bits
value-eight a b c d e f g h ha hb hc hd he hf hg hh =
    let none : value (bits []) ≡ 0 = refl in
    let h1 : value (bits (h ∷ [])) ≡ h * 1 + value (bits []) = value-bytes h [] hh in
    let g1 : value (bits (g ∷ h ∷ [])) ≡ g * 256 + value (bits (h ∷ [])) = value-bytes g (h ∷ []) hg in
    let f1 : value (bits (f ∷ g ∷ h ∷ [])) ≡ f * 65536 + value (bits (g ∷ h ∷ [])) = value-bytes f (g ∷ h ∷ []) hf in
    let e1 : value (bits (e ∷ f ∷ g ∷ h ∷ [])) ≡ e * 2 ^ 24 + value (bits (f ∷ g ∷ h ∷ [])) = value-bytes e (f ∷ g ∷ h ∷ []) he in
    let d1 : value (bits (d ∷ e ∷ f ∷ g ∷ h ∷ [])) ≡ d * 2 ^ 32 + value (bits (e ∷ f ∷ g ∷ h ∷ [])) = value-bytes d (e ∷ f ∷ g ∷ h ∷ []) hd in
    let c1 : value (bits (c ∷ d ∷ e ∷ f ∷ g ∷ h ∷ [])) ≡ c * 2 ^ 40 + value (bits (d ∷ e ∷ f ∷ g ∷ h ∷ [])) = value-bytes c (d ∷ e ∷ f ∷ g ∷ h ∷ []) hc in
    let b1 : value (bits (b ∷ c ∷ d ∷ e ∷ f ∷ g ∷ h ∷ [])) ≡ b * 2 ^ 48 + value (bits (c ∷ d ∷ e ∷ f ∷ g ∷ h ∷ [])) = value-bytes b (c ∷ d ∷ e ∷ f ∷ g ∷ h ∷ []) hb in
    let a1 : value (bits (a ∷ b ∷ c ∷ d ∷ e ∷ f ∷ g ∷ h ∷ [])) ≡ a * 2 ^ 56 + value (bits (b ∷ c ∷ d ∷ e ∷ f ∷ g ∷ h ∷ [])) = value-bytes a (b ∷ c ∷ d ∷ e ∷ f ∷ g ∷ h ∷ []) ha in
    omega arith

pub first_eight : (bytes : List ℕ) → 8 ≤ length bytes → take 8 bytes ≡ get_or bytes 0 0 ∷ get_or bytes 1 0 ∷ get_or bytes 2 0 ∷ get_or bytes 3 0 ∷ get_or bytes 4 0 ∷ get_or bytes 5 0 ∷ get_or bytes 6 0 ∷ get_or bytes 7 0 ∷ []
first_eight [] l = absurd (omega arith)
first_eight (a ∷ []) l = absurd (omega arith)
first_eight (a ∷ b ∷ []) l = absurd (omega arith)
first_eight (a ∷ b ∷ c ∷ []) l = absurd (omega arith)
first_eight (a ∷ b ∷ c ∷ d ∷ []) l = absurd (omega arith)
first_eight (a ∷ b ∷ c ∷ d ∷ e ∷ []) l = absurd (omega arith)
first_eight (a ∷ b ∷ c ∷ d ∷ e ∷ f ∷ []) l = absurd (omega arith)
first_eight (a ∷ b ∷ c ∷ d ∷ e ∷ f ∷ g ∷ []) l = absurd (omega arith)
first_eight (a ∷ b ∷ c ∷ d ∷ e ∷ f ∷ g ∷ h ∷ rest) l = refl

-- the middle of a word
pub word_middle : (word o w : ℕ) → o + w ≤ 64 → word * 2 ^ o % 2 ^ 64 / 2 ^ (64 - w) ≡ value (part o w (num 64 word))
word_middle word o w h =
    let s = 64 - o - w in
    let whole : 64 ≡ w + (o + s) = omega arith in
    let rest : 64 - w ≡ o + s = omega arith in
    let order : o + (w + s) ≡ 64 = omega arith in
    let a : word * 2 ^ o % 2 ^ 64 / 2 ^ (64 - w) ≡ word * 2 ^ o % 2 ^ (w + (o + s)) / 2 ^ (o + s) = ap (λ k. word * 2 ^ o % 2 ^ k / 2 ^ (64 - w)) whole ∙ ap (λ k. word * 2 ^ o % 2 ^ (w + (o + s)) / 2 ^ k) rest in
    let b : word * 2 ^ o / 2 ^ (o + s) ≡ word / 2 ^ s = sym (shr-shr (word * 2 ^ o) o s) ∙ ap (λ k. k / 2 ^ s) (shl-shr word o) in
    let c : value (part o w (num 64 word)) ≡ word / 2 ^ s % 2 ^ w = ap (λ k. value (part o w (num k word))) (sym order) ∙ ap value (num_part o w s word) ∙ value-num_low w (word / 2 ^ s) in
    a ∙ field_of (word * 2 ^ o) w (o + s) ∙ ap (λ k. k % 2 ^ w) b ∙ sym c

-- a part of the first eight bytes
pub word_read : (bytes : List ℕ) (word o w : ℕ) → 8 ≤ length bytes → o + w ≤ 64 → word ≡ value (part 0 64 (bits bytes)) → word * 2 ^ o % 2 ^ 64 / 2 ^ (64 - w) ≡ value (part o w (bits bytes))
word_read bytes word o w l h e =
    let first = part 0 64 (bits bytes) in
    let size : length first ≡ 64 = length-part 0 64 (bits bytes) (omega (arith, length-bits bytes)) in
    let spelt : num 64 word ≡ first = ap (num 64) e ∙ ap (λ k. num k (value first)) (sym size) ∙ num-value first in
    let zero_first : 0 + o ≡ o = omega arith in
    word_middle word o w h ∙ ap (λ l. value (part o w l)) spelt ∙ ap value (part-part 0 64 o w (bits bytes) h) ∙ ap (λ k. value (part k w (bits bytes))) zero_first

pub word_found : (bytes : List ℕ) (word : ℕ) → 8 ≤ length bytes → ((k : ℕ) → get_or bytes k 0 < 2 ^ 8) → word ≡ from_be_bytes w64 (get_or bytes 0 0 ∷ get_or bytes 1 0 ∷ get_or bytes 2 0 ∷ get_or bytes 3 0 ∷ get_or bytes 4 0 ∷ get_or bytes 5 0 ∷ get_or bytes 6 0 ∷ get_or bytes 7 0 ∷ []) → word ≡ value (part 0 64 (bits bytes))
word_found bytes word l h e =
    e ∙ value-eight _ _ _ _ _ _ _ _ (h 0) (h 1) (h 2) (h 3) (h 4) (h 5) (h 6) (h 7) ∙ sym (ap (λ l. value (bits l)) (first_eight bytes l)) ∙ ap value (bits-take bytes 8 l)
