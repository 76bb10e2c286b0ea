-- The bits of a word, as flags.
use Rattle.std.proofs.Common.{◌≡◌, ◌≢◌, ℕ, ◌+◌, ◌-◌, ◌*◌, ◌/◌, ◌%◌, ◌^◌, ◌<◌, ◌≤◌, sym, ap, ◌∙◌, arith, min, bit_and, inl, inr}
use Rattle.std.specs.Prelude.{◌↔◌, ◌⊎◌}
use Rattle.std.specs.Int.{bit_at, trailing_zeros, w64}
use Rattle.std.proofs.lemmas.Bool.{cases_lt, cases_eq}
use Rattle.std.proofs.lemmas.Nat.{shr_split, mod_below, pow_pos, pow_below}
use Rattle.std.proofs.lemmas.Nat.Bits.{bit_at_and, bit_at-zero, bit_at-pow_same, bit_at-pow_other, bit_at_ones_above, bit_at_cat_low, bit_at_cat_high, bit_at-trailing_zeros, same_from_bits_below}
use Rattle.etcs_rows.specs.Sets.{AnyFlag}
use Rattle.etcs_rows.proofs.Shifts.{bit_cut, bit_shr, bit_shl_low, bit_shl_high}

-- ---- without the lowest flag
-- a number whose lowest flag is t, cut after it
lowest_alone : (n t : ℕ) → bit_at n t ≡ 1 → ((i : ℕ) → i < t → bit_at n i ≡ 0) → n % 2 ^ (t + 1) ≡ 2 ^ t
lowest_alone n t one low =
    same_from_bits_below (t + 1) (n % 2 ^ (t + 1)) (2 ^ t) (mod_below n (2 ^ (t + 1)) (pow_pos (t + 1))) (pow_below t (t + 1) (omega arith))
    (λ i h. bit_cut n (t + 1) i h ∙ elim (cases_eq i t) [
      | inl same ↦ rw same (one ∙ sym (bit_at-pow_same t))
      | inr off ↦ low i (omega arith) ∙ sym (bit_at-pow_other t i off)
    ])

-- the same number, and the one below it, by what is above the flag
lowest_split : (n t : ℕ) → bit_at n t ≡ 1 → ((i : ℕ) → i < t → bit_at n i ≡ 0) → n / 2 ^ (t + 1) * 2 ^ (t + 1) + 2 ^ t ≡ n
lowest_split n t one low = ap (λ x. n / 2 ^ (t + 1) * 2 ^ (t + 1) + x) (sym (lowest_alone n t one low)) ∙ shr_split n (t + 1)

lowest_less : (n t : ℕ) → bit_at n t ≡ 1 → ((i : ℕ) → i < t → bit_at n i ≡ 0) → n / 2 ^ (t + 1) * 2 ^ (t + 1) + (2 ^ t - 1) ≡ n - 1
lowest_less n t one low = let e = lowest_split n t one low in let p = pow_pos t in omega (arith, e, p)

-- one less changes no flag above the lowest, and takes the lowest away
less_above : (n t i : ℕ) → bit_at n t ≡ 1 → ((i : ℕ) → i < t → bit_at n i ≡ 0) → t < i → bit_at (n - 1) i ≡ bit_at n i
less_above n t i one low h =
    let top = n / 2 ^ (t + 1) in
    let wide = pow_below t (t + 1) (omega arith) in
    let thin : 2 ^ t - 1 < 2 ^ (t + 1) = omega (arith, wide) in
    ap (λ x. bit_at x i) (sym (lowest_less n t one low)) ∙ bit_at_cat_high top (t + 1) (2 ^ t - 1) i thin (omega arith) ∙ sym (bit_at_cat_high top (t + 1) (2 ^ t) i wide (omega arith)) ∙ ap (λ x. bit_at x i) (lowest_split n t one low)

less_lowest : (n t : ℕ) → bit_at n t ≡ 1 → ((i : ℕ) → i < t → bit_at n i ≡ 0) → bit_at (n - 1) t ≡ 0
less_lowest n t one low = ap (λ x. bit_at x t) (sym (lowest_less n t one low)) ∙ bit_at_cat_low (n / 2 ^ (t + 1)) (t + 1) (2 ^ t - 1) t (omega arith) ∙ bit_at_ones_above t t (omega arith)

-- what n & (n - 1) has
pub cleared_same : (n : ℕ) → 0 < n → n < 2 ^ 64 → bit_at (bit_and n (n - 1)) (trailing_zeros w64 n) ≡ 0
cleared_same n pos fit =
    let t = trailing_zeros w64 n in
    let lowest = bit_at-trailing_zeros w64 n pos fit in
    bit_at_and n (n - 1) t ∙ rw (less_lowest n t lowest.1 lowest.2) (let e : min (bit_at n t) 0 ≡ 0 = omega arith in e)

pub cleared_other : (n i : ℕ) → 0 < n → n < 2 ^ 64 → i ≢ trailing_zeros w64 n → bit_at (bit_and n (n - 1)) i ≡ bit_at n i
cleared_other n i pos fit off =
    let t = trailing_zeros w64 n in
    let lowest = bit_at-trailing_zeros w64 n pos fit in
    bit_at_and n (n - 1) i ∙ elim (cases_lt i t) [
      | inl under ↦ rw (lowest.2 i under) (let e : min 0 (bit_at (n - 1) i) ≡ 0 = omega arith in e)
      | inr over ↦ rw (less_above n t i lowest.1 lowest.2 (omega (arith, over, off))) (let e : min (bit_at n i) (bit_at n i) ≡ bit_at n i = omega arith in e)
    ]

-- ---- flags from low to high
-- the flags from low to high alone, at the top of a word
abbrev pub cut_out : ℕ → ℕ → ℕ → ℕ
cut_out word low high = word / 2 ^ low * 2 ^ (63 - (high - low)) % 2 ^ 64

cut_out_under : (word low high j : ℕ) → j < 63 - (high - low) → bit_at (cut_out word low high) j ≡ 0
cut_out_under word low high j h = bit_cut (word / 2 ^ low * 2 ^ (63 - (high - low))) 64 j (omega arith) ∙ bit_shl_low (word / 2 ^ low) (63 - (high - low)) j h

cut_out_at : (word low high i j : ℕ) → low ≤ i → high < 64 → j < 64 → i + 63 ≡ j + high → bit_at (cut_out word low high) j ≡ bit_at word i
cut_out_at word low high i j hl hh hj e =
    bit_cut (word / 2 ^ low * 2 ^ (63 - (high - low))) 64 j hj ∙ bit_shl_high (word / 2 ^ low) (63 - (high - low)) j (omega arith) ∙ bit_shr word low (j - (63 - (high - low))) i (omega arith)

pub flag_cut_out : (word low high : ℕ) → low ≤ high → high < 64 → AnyFlag word low high → cut_out word low high ≢ 0
flag_cut_out word low high order bound (i, one, over, under) none =
    let e : i + 63 ≡ i + 63 - high + high = omega arith in
    let t : 1 ≡ 0 = sym one ∙ sym (cut_out_at word low high i (i + 63 - high) over bound (omega arith) e) ∙ ap (λ x. bit_at x (i + 63 - high)) none ∙ bit_at-zero (i + 63 - high) in omega (arith, t)

pub cut_out_flag : (word low high : ℕ) → low ≤ high → high < 64 → cut_out word low high ≢ 0 → AnyFlag word low high
cut_out_flag word low high order bound some =
    let x = cut_out word low high in
    let lowest = bit_at-trailing_zeros w64 x (omega arith) (mod_below (word / 2 ^ low * 2 ^ (63 - (high - low))) (2 ^ 64) (pow_pos 64)) in
    let j = trailing_zeros w64 x in
    elim (cases_lt j (63 - (high - low))) [
      | inl under ↦ absurd (let t : 1 ≡ 0 = sym lowest.1 ∙ cut_out_under word low high j under in omega (arith, t))
      | inr over ↦
          let small = lowest.0 in
          let e : j + high - 63 + 63 ≡ j + high = omega (arith, small) in
          (j + high - 63, sym (cut_out_at word low high (j + high - 63) j (omega (arith, small)) bound small e) ∙ lowest.1, omega (arith, small), omega (arith, small))
    ]

-- ---- a walk over the flags of a word, of which some are left
-- numbers of the flags that are no longer left
abbrev pub Passed : ℕ → ℕ → ℕ → ℕ → Type 0
Passed word left base j = (i : ℕ) × (bit_at word i ≡ 1) × (bit_at left i ≡ 0) × (base + i ≡ j)

pub passed_more : (word left base : ℕ) → 0 < left → left < 2 ^ 64 → ((i : ℕ) → bit_at left i ≡ 1 → bit_at word i ≡ 1) → (j : ℕ) → Passed word (bit_and left (left - 1)) base j ↔ (Passed word left base j ⊎ (j ≡ base + trailing_zeros w64 left))
passed_more word left base pos fit part j =
    let t = trailing_zeros w64 left in
    let one = (bit_at-trailing_zeros w64 left pos fit).1 in (
      λ (i, has, gone, e). elim (cases_eq i t) [
        | inl same ↦ inr (omega (arith, same, e))
        | inr off ↦ inl (i, has, sym (cleared_other left i pos fit off) ∙ gone, e)
      ],
      λ h. elim h [
        | inl (i, has, gone, e) ↦
            let off : i ≢ t = λ same. (let zero : bit_at left t ≡ 0 = rw same at gone in omega (arith, one, zero)) in (i, has, cleared_other left i pos fit off ∙ gone, e)
        | inr e ↦ (t, part t one, cleared_same left pos fit, sym e)
      ],
    )

pub still_part : (word left : ℕ) → 0 < left → left < 2 ^ 64 → ((i : ℕ) → bit_at left i ≡ 1 → bit_at word i ≡ 1) → (i : ℕ) → bit_at (bit_and left (left - 1)) i ≡ 1 → bit_at word i ≡ 1
still_part word left pos fit part i has =
    elim (cases_eq i (trailing_zeros w64 left)) [
      | inl same ↦ absurd (let gone = cleared_same left pos fit in let one : bit_at (bit_and left (left - 1)) (trailing_zeros w64 left) ≡ 1 = rw same at has in omega (arith, gone, one))
      | inr off ↦ part i (sym (cleared_other left i pos fit off) ∙ has)
    ]

pub passed_none : (word base j : ℕ) → Passed word word base j → ⊥
passed_none word base j (i, has, gone, e) = omega (arith, has, gone)

pub passed_all : (word left base : ℕ) → left ≡ 0 → (j : ℕ) → ((i : ℕ) × (bit_at word i ≡ 1) × (base + i ≡ j)) ↔ Passed word left base j
passed_all word left base none j = (λ (i, has, e). (i, has, ap (λ x. bit_at x i) none ∙ bit_at-zero i, e), λ (i, has, gone, e). (i, has, e))

pub flag_of : (word : ℕ) → word ≢ 0 → word < 2 ^ 64 → AnyFlag word 0 63
flag_of word some fit =
    let lowest = bit_at-trailing_zeros w64 word (omega (arith, some)) fit in
    let small = lowest.0 in (trailing_zeros w64 word, lowest.1, omega arith, omega (arith, small))
