-- Bits that are kept in a word.
use Rattle.std.proofs.Common.{◌≡◌, ℕ, ◌+◌, ◌-◌, ◌*◌, ◌/◌, ◌%◌, ◌^◌, ◌<◌, ◌≤◌, Bool, true, List, length, Some, leb, sym, ap, ◌∙◌, arith, inl, inr}
use Rattle.std.proofs.lemmas.Bool.{cases_lt, le-leb}
use Rattle.std.proofs.lemmas.Nat.{field_of, shl-shr, shr-shr, div-mul-add, mod_low, mod_below, shl_whole}
use Rattle.etcs_bits.specs.Bits.{value, part, number_at}
use Rattle.etcs_bits.specs.SliceWalker.{Keeps}
use Rattle.etcs_bits.proofs.Lists.{value-part_add}
use Rattle.etcs_bits.proofs.Positions.{number_inside}
use Rattle.etcs_bits.proofs.Steps.{value-part_below}

-- the number that is found
number_is : (s c number : ℕ) (bs : List Bool) → s + c ≤ length bs → Some number ≡ number_at s c bs → number ≡ value (part s c bs)
number_is s c number bs h e =
    let t : leb (s + c) (length bs) ≡ true = le-leb _ _ h in
    let some : Some number ≡ Some (value (part s c bs)) = rw t at e in
    cc

-- the first bits of a word
pub front : (word hi lo i j k : ℕ) → word / 2 ^ i ≡ hi * 2 ^ j + lo → lo < 2 ^ j → k ≡ i + j → word / 2 ^ k ≡ hi
front word hi lo i j k is low e =
    ap (λ m. word / 2 ^ m) e
    ∙ sym (shr-shr word i j)
    ∙ ap (λ m. m / 2 ^ j) is
    ∙ div-mul-add hi (2 ^ j) lo low

-- what is after them, moved to the front
beyond : (word hi lo i j w : ℕ) → word / 2 ^ i ≡ hi * 2 ^ j + lo → lo < 2 ^ j → w + i + j ≡ 64 → word * 2 ^ w % 2 ^ 64 / 2 ^ (w + i) ≡ lo
beyond word hi lo i j w is low e =
    let size : 64 ≡ j + (w + i) = omega (arith, e) in
    ap (λ m. word * 2 ^ w % 2 ^ m / 2 ^ (w + i)) size
    ∙ field_of (word * 2 ^ w) j (w + i)
    ∙ ap (λ m. m % 2 ^ j) (sym (shr-shr (word * 2 ^ w) w i) ∙ ap (λ m. m / 2 ^ i) (shl-shr word w) ∙ is)
    ∙ mod_low hi j lo low

-- a word that has nothing after them
spent : (x lo : ℕ) → x < 2 ^ 64 → lo < 2 ^ 0 → x / 2 ^ 64 ≡ lo
spent x lo h low = omega (arith, h, low)

moved : (word hi lo i j w : ℕ) → word / 2 ^ i ≡ hi * 2 ^ j + lo → lo < 2 ^ j → w + i + j ≡ 64 → word * 2 ^ (w % 64) % 2 ^ 64 / 2 ^ (64 - j) ≡ lo
moved word hi lo i j w is low e = elim (cases_lt w 64) [
  | inl small ↦
      (let same : w % 64 ≡ w = omega (arith, small) in
      let rest : 64 - j ≡ w + i = omega (arith, e) in
      ap (λ m. word * 2 ^ m % 2 ^ 64 / 2 ^ (64 - j)) same ∙ ap (λ m. word * 2 ^ w % 2 ^ 64 / 2 ^ m) rest ∙ beyond word hi lo i j w is low e)
  | inr big ↦
      (let none : j ≡ 0 = omega (arith, big, e) in
      let whole : 64 - j ≡ 64 = omega (arith, none) in
      let x = word * 2 ^ (w % 64) % 2 ^ 64 in
      ap (λ m. x / 2 ^ m) whole ∙ spent x lo (mod_below (word * 2 ^ (w % 64)) (2 ^ 64) (omega arith)) (rw none at low))
]

pub first_kept : (word count width : ℕ) (bs : List Bool) (end : ℕ) → width ≤ count → Keeps word count bs end → (number_at (end - count) width bs ≡ Some (word / 2 ^ (64 - width))) × Keeps (word * 2 ^ (width % 64) % 2 ^ 64) (count - width) bs end
first_kept word count width bs end enough k =
    let j = count - width in
    let i = 64 - count in
    let at = end - count in
    let whole : width + j ≡ count = omega arith in
    let place : at + width ≡ end - j = omega (arith, k.order) in
    let hi = value (part at width bs) in
    let lo = value (part (at + width) j bs) in
    let n : value (part at count bs) ≡ hi * 2 ^ j + lo = ap (λ m. value (part at m bs)) (sym whole) ∙ value-part_add at width j bs (omega (arith, k.order, k.inside)) in
    let low : lo < 2 ^ j = value-part_below (at + width) j bs (omega (arith, k.order, k.inside)) in
    let is : word / 2 ^ i ≡ hi * 2 ^ j + lo = k.word_is ∙ n in
    let first : word / 2 ^ (64 - width) ≡ hi = front word hi lo i j (64 - width) is low (omega (arith, k.small)) in
    let rest : word * 2 ^ (width % 64) % 2 ^ 64 / 2 ^ (64 - j) ≡ lo = moved word hi lo i j width is low (omega (arith, k.small)) in (
      sym (number_inside at width bs (word / 2 ^ (64 - width)) (omega (arith, k.order, k.inside)) first),
      record { small = omega (arith, k.small); order = omega (arith, k.order); inside = k.inside; word_is = rest ∙ ap (λ m. value (part m j bs)) place },
    )

-- a number that is found, moved to the front of a word
pub kept_word : (number count : ℕ) (bs : List Bool) (at : ℕ) → count ≤ 64 → at + count ≤ length bs → number_at at count bs ≡ Some number → Keeps (number * 2 ^ (64 - count) % 2 ^ 64) count bs (at + count)
kept_word number count bs at small inside found =
    let is : number ≡ value (part at count bs) = number_is at count number bs inside (sym found) in
    let below : number < 2 ^ count = omega (arith, is, value-part_below at count bs inside) in
    let place : at ≡ at + count - count = omega arith in
    let shifted : number * 2 ^ (64 - count) % 2 ^ 64 ≡ number * 2 ^ (64 - count) = shl_whole number count (64 - count) 64 below (omega (arith, small)) in
    record { small = small; order = omega arith; inside = inside; word_is = ap (λ m. m / 2 ^ (64 - count)) shifted ∙ shl-shr number (64 - count) ∙ is ∙ ap (λ m. value (part m count bs)) place }
