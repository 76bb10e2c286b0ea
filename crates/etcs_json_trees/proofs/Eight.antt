-- Eight digits 0 and 1 as a word.
use Rattle.std.proofs.Common.{◌≡◌, ℕ, zero, suc, ◌+◌, ◌*◌, ◌/◌, ◌%◌, ◌^◌, ◌<◌, ◌≤◌, ◌==◌, ◌↔◌, Bool, true, ◌&&◌, IsTrue, inl, inr, List, [], ◌∷◌, length, map, get_or, replicate, refl, sym, ap, subst, ◌∙◌, arith, w64}
use Rattle.std.specs.Prelude.{bit_and}
use Rattle.std.specs.Int.{Width, from_le_bytes, to_le_bytes}
use Rattle.std.proofs.lemmas.Bool.{and_parts, cases_lt, eq-eqb, eqb-true}
use Rattle.std.proofs.lemmas.Nat.{and_block, and_le_r, and_mask, and_shr}
use Rattle.std.proofs.lemmas.List.{length-map}
use Rattle.etcs_bits.specs.Bits.{num, value}
use Rattle.etcs_bits.proofs.Numbers.{bit-eqb, num-value, value_below}
use Rattle.etcs_packet_text.specs.Show.{bit_digit}

-- ---- Bytes as a number, the first one the lowest.

number : List ℕ → ℕ
number [] = 0
number (b ∷ bs) = number bs * 2 ^ 8 + b

word_is : (ds : List ℕ) → length ds ≡ 8 → from_le_bytes w64 ds ≡ number ds
unfolding number
word_is [] e = absurd (omega arith)
word_is (a ∷ []) e = absurd (omega arith)
word_is (a ∷ b ∷ []) e = absurd (omega arith)
word_is (a ∷ b ∷ c ∷ []) e = absurd (omega arith)
word_is (a ∷ b ∷ c ∷ d ∷ []) e = absurd (omega arith)
word_is (a ∷ b ∷ c ∷ d ∷ f ∷ []) e = absurd (omega arith)
word_is (a ∷ b ∷ c ∷ d ∷ f ∷ g ∷ []) e = absurd (omega arith)
word_is (a ∷ b ∷ c ∷ d ∷ f ∷ g ∷ h ∷ []) e = absurd (omega arith)
word_is (a ∷ b ∷ c ∷ d ∷ f ∷ g ∷ h ∷ i ∷ []) e = omega arith
word_is (a ∷ b ∷ c ∷ d ∷ f ∷ g ∷ h ∷ i ∷ j ∷ ds) e = absurd (omega arith)

-- ---- A mask over each byte.

is_odd : ℕ → Bool
is_odd d = d % 2 == 1

one_digit : (d : ℕ) → d < 256 → bit_and d 254 ≡ 48 → d ≡ bit_digit (is_odd d)
unfolding is_odd
one_digit d small e =
    let half : bit_and d 254 / 2 ^ 1 ≡ d / 2 ^ 1 % 2 ^ 7 = and_shr d 254 1 ∙ and_mask (d / 2 ^ 1) 7 in
    let last = bit-eqb (d % 2) (omega arith) in
    omega (arith, half, e, last)

all_digits : (ds : List ℕ) → ((k : ℕ) → get_or ds k 0 < 256) → bit_and (number ds) (number (map (λ _. 254) ds)) ≡ number (map (λ _. 48) ds) → ds ≡ map bit_digit (map is_odd ds)
unfolding number
all_digits [] small e = refl
all_digits (d ∷ ds) small e =
    let masks = number (map (λ _. 254) ds) in
    let parts : bit_and (number ds * 2 ^ 8 + d) (masks * 2 ^ 8 + 254) ≡ bit_and (number ds) masks * 2 ^ 8 + bit_and d 254 = and_block 8 (number ds) masks d 254 (small 0) (omega arith) in
    let low : bit_and d 254 ≤ 254 = and_le_r d 254 in
    let first : bit_and d 254 ≡ 48 = omega (arith, e, parts, low) in
    let others : bit_and (number ds) masks ≡ number (map (λ _. 48) ds) = omega (arith, e, parts, low) in
    ap (λ (x : ℕ). x ∷ ds) (one_digit d (small 0) first) ∙ ap (λ (z : List ℕ). bit_digit (is_odd d) ∷ z) (all_digits ds (λ k. small (suc k)) others)

alike : (c : ℕ) (ds : List ℕ) → map (λ _. c) ds ≡ replicate (length ds) c
alike c [] = refl
alike c (d ∷ ds) = ap (λ (z : List ℕ). c ∷ z) (alike c ds)

mask_is : (c : ℕ) (ds : List ℕ) → length ds ≡ 8 → number (map (λ _. c) ds) ≡ number (replicate 8 c)
mask_is c ds e = ap number (alike c ds ∙ ap (λ (k : ℕ). replicate k c) e)

mask_digits : number (replicate 8 254) ≡ 0xfefefefefefefefe
unfolding number
mask_digits = refl

mask_zeros : number (replicate 8 48) ≡ 0x3030303030303030
unfolding number
mask_zeros = refl

masked : (ds : List ℕ) (word : ℕ) → length ds ≡ 8 → word ≡ number ds → bit_and word 0xfefefefefefefefe ≡ 0x3030303030303030 → bit_and (number ds) (number (map (λ _. 254) ds)) ≡ number (map (λ _. 48) ds)
masked ds word long same e =
    ap (λ (k : ℕ). bit_and (number ds) k) (mask_is 254 ds long ∙ mask_digits)
    ∙ ap (λ (k : ℕ). bit_and k 0xfefefefefefefefe) (sym same)
    ∙ e
    ∙ sym (mask_is 48 ds long ∙ mask_zeros)

-- ---- The byte of eight lowest bits.

packed : ℕ → ℕ
packed word = bit_and word 0x0101010101010101 * 0x8040201008040201 % 2 ^ 64 / 2 ^ 56

are_packed : ℕ → Bool
are_packed zero = true
are_packed (suc n) = (packed (number (map bit_digit (num 8 n))) == n) && are_packed n

below : (n b : ℕ) → are_packed n ≡ true → b < n → packed (number (map bit_digit (num 8 b))) ≡ b
unfolding are_packed
below zero b h less = absurd (omega arith)
below (suc n) b h less =
    elim (cases_lt b n) [
      | inl under ↦ below n b (and_parts _ (are_packed n) h).1 under
      | inr top ↦
          let e : n ≡ b = omega arith in
          subst (λ (k : ℕ). packed (number (map bit_digit (num 8 k))) ≡ k) e (eqb-true _ _ (and_parts _ (are_packed n) h).0)
    ]

packed_all : are_packed 256 ≡ true
unfolding are_packed packed number num
packed_all = refl

eight_bits : (bs : List Bool) → length bs ≡ 8 → num 8 (packed (number (map bit_digit bs))) ≡ bs
eight_bits bs e =
    let same : num 8 (value bs) ≡ bs = ap (λ (k : ℕ). num k (value bs)) (sym e) ∙ num-value bs in
    let small : value bs < 256 = omega (arith, value_below bs, ap (λ (k : ℕ). 2 ^ k) e) in
    ap (λ (z : List Bool). num 8 (packed (number (map bit_digit z)))) (sym same)
    ∙ ap (num 8) (below 256 (value bs) packed_all small)
    ∙ same

pub eight_small : (word : ℕ) → bit_and word 0x0101010101010101 * 0x8040201008040201 % 2 ^ 64 / 2 ^ 56 < 256
eight_small word = omega arith

pub eight_digits : (ds : List ℕ) (word : ℕ) → length ds ≡ 8 → ((k : ℕ) → get_or ds k 0 < 256) → word ≡ from_le_bytes w64 ds → bit_and word 0xfefefefefefefefe ≡ 0x3030303030303030 → ds ≡ map bit_digit (num 8 (bit_and word 0x0101010101010101 * 0x8040201008040201 % 2 ^ 64 / 2 ^ 56))
unfolding packed
eight_digits ds word long small is e =
    let same : word ≡ number ds = is ∙ word_is ds long in
    let digits = all_digits ds small (masked ds word long same e) in
    let bs = map is_odd ds in
    let eight = eight_bits bs (length-map ds is_odd ∙ long) in
    digits ∙ ap (map bit_digit) (sym eight) ∙ ap (λ (w : ℕ). map bit_digit (num 8 (packed w))) (sym (same ∙ ap number digits))

-- ---- Bytes that are the same number.

pub same_number : (w : Width) (xs ys : List ℕ) (x y : ℕ) → x ≡ from_le_bytes w xs → y ≡ from_le_bytes w ys → to_le_bytes w x ≡ xs → to_le_bytes w y ≡ ys → IsTrue (x == y) ↔ (xs ≡ ys)
same_number w xs ys x y ex ey back ahead =
    (λ h. sym back ∙ ap (to_le_bytes w) (eqb-true x y h) ∙ ahead, λ e. eq-eqb x y (ex ∙ ap (from_le_bytes w) e ∙ sym ey))
