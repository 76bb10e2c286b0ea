-- A slice of bits, seen as the part of the bytes that it stands for.
use Rattle.std.proofs.Common.{◌≡◌, ℕ, ◌+◌, ◌-◌, ◌*◌, ◌^◌, ◌<◌, ◌≤◌, Bool, true, false, List, length, take, drop, Some, None, leb, refl, sym, ap, ◌∙◌, arith}
use Rattle.std.specs.Prelude.{nat_le, if◌then◌else◌}
use Rattle.std.proofs.lemmas.Bool.{lt-leb, le-leb}
use Rattle.etcs_bits.specs.Bits.{num, value, bits, part, number_at}
use Rattle.etcs_bits.proofs.Numbers.{num-value}
use Rattle.etcs_bits.proofs.Positions.{number_inside}
use Rattle.etcs_bits.proofs.Lists.{length-part, part-part}
use Rattle.etcs_bits.proofs.Steps.{part-rest, value-part_below}

-- the part that a slice is asked for, or nothing
pub part_past : (start len : ℕ) (bs : List Bool) → length bs < start + len → None ≡ (if nat_le (start + len) (length bs) then Some (part start len bs) else None)
part_past start len bs h = let t : leb (start + len) (length bs) ≡ false = lt-leb (start + len) (length bs) h in rw t refl

pub part_inside : (start len : ℕ) (bs found : List Bool) → start + len ≤ length bs → found ≡ part start len bs → Some found ≡ (if nat_le (start + len) (length bs) then Some (part start len bs) else None)
part_inside start len bs found h e = let t : leb (start + len) (length bs) ≡ true = le-leb _ _ h in rw (t, e) refl

-- what a slice of these fields is asked for: it begins at the bit a of bytes and has n bits
pub view_part : (bytes : List ℕ) (seen : List Bool) (a n s c at from : ℕ) → seen ≡ part a n (bits bytes) → s + c ≤ n → 8 * at + from ≡ a + s → part from c (bits (take (length bytes - at) (drop at bytes))) ≡ part s c seen
view_part bytes seen a n s c at from e h place =
    part-rest bytes at (a + s) from c (sym place) ∙ sym (ap (part s c) e ∙ part-part a n s c (bits bytes) h)

pub length-view : (bytes : List ℕ) (seen : List Bool) (a n : ℕ) → seen ≡ part a n (bits bytes) → a + n ≤ length (bits bytes) → length seen ≡ n
length-view bytes seen a n e h = ap length e ∙ length-part a n (bits bytes) h

-- what a slice is asked for, among the bits of all bytes
pub view_bits : (bytes : List ℕ) (seen : List Bool) (a n s c start : ℕ) → seen ≡ part a n (bits bytes) → s + c ≤ n → start ≡ a + s → part start c (bits bytes) ≡ part s c seen
view_bits bytes seen a n s c start e h place =
    ap (λ k. part k c (bits bytes)) place ∙ sym (ap (part s c) e ∙ part-part a n s c (bits bytes) h)

-- a number in the same bits of two lists
pub number_same : (s t c : ℕ) (xs ys : List Bool) → s + c ≤ length xs → t + c ≤ length ys → part s c xs ≡ part t c ys → number_at s c xs ≡ number_at t c ys
number_same s t c xs ys h k e =
    sym (number_inside s c xs (value (part s c xs)) h refl) ∙ number_inside t c ys (value (part s c xs)) k (ap value e)

-- a number that a slice is asked for, among the bits of all bytes
pub number_view : (bytes : List ℕ) (seen : List Bool) (a n s c start : ℕ) → seen ≡ part a n (bits bytes) → a + n ≤ length (bits bytes) → s + c ≤ n → start ≡ a + s → number_at start c (bits bytes) ≡ number_at s c seen
number_view bytes seen a n s c start e all h place =
    number_same start s c (bits bytes) seen (omega (arith, place)) (omega (arith, length-view bytes seen a n e all)) (view_bits bytes seen a n s c start e h place)

-- a number found inside a list of bits
pub number_bits : (s c number : ℕ) (seen : List Bool) → s + c ≤ length seen → number_at s c seen ≡ Some number → num c number ≡ part s c seen
number_bits s c number seen h e =
    let t : leb (s + c) (length seen) ≡ true = le-leb _ _ h in
    let some : Some (value (part s c seen)) ≡ Some number = rw t at e in
    let same : value (part s c seen) ≡ number = cc in
    let size : length (part s c seen) ≡ c = length-part s c seen h in
    ap (num c) (sym same) ∙ ap (λ k. num k (value (part s c seen))) (sym size) ∙ num-value (part s c seen)

pub number_below : (s c number : ℕ) (seen : List Bool) → s + c ≤ length seen → number_at s c seen ≡ Some number → number < 2 ^ c
number_below s c number seen h e =
    let t : leb (s + c) (length seen) ≡ true = le-leb _ _ h in
    let some : Some (value (part s c seen)) ≡ Some number = rw t at e in
    let same : value (part s c seen) ≡ number = cc in
    omega (arith, same, value-part_below s c seen h)
