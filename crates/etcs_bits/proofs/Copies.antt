-- Words moved from one list of bytes to another.
use Rattle.std.proofs.Common.{◌≡◌, ℕ, ◌+◌, ◌-◌, ◌*◌, ◌%◌, ◌^◌, ◌<◌, ◌≤◌, Bool, List, ◌++◌, length, take, drop, get_or, refl, sym, ap, ◌∙◌, arith}
use Rattle.std.specs.Int.{to_be_bytes, w64}
use Rattle.std.proofs.lemmas.List.{take_all}
use Rattle.std.proofs.lemmas.Nat.{mod_low, mul-add-lt, pow-add, pow_pos}
use Rattle.std.proofs.Math.Nat.{mul_assoc, add-mul}
use borrow.Rule.Slice.PartMut.{put_mid}
use Rattle.etcs_bits.specs.Bits.{num, value, bits, part, replaced}
use Rattle.etcs_bits.proofs.Numbers.{length-num, num-value}
use Rattle.etcs_bits.proofs.Positions.{length-bits}
use Rattle.etcs_bits.proofs.Lists.{length-part, part-add, value-part_add, replaced_more, length-replaced}
use Rattle.etcs_bits.proofs.ByteBits.{bits-append, bits-drop, bits-part}
use Rattle.etcs_bits.proofs.Steps.{value-part_below, part-rest, replaced-rest}
use Rattle.etcs_bits.proofs.WordWrites.{bits-word}

-- a number in two parts, moved up and cut to the lower 64 bits
moved_up : (high middle o : ℕ) → o ≤ 64 → middle < 2 ^ (64 - o) → (high * 2 ^ (64 - o) + middle) * 2 ^ o % 2 ^ 64 ≡ middle * 2 ^ o
moved_up high middle o h small =
    let back : 64 - o + o ≡ 64 = omega arith in
    let whole : 2 ^ (64 - o) * 2 ^ o ≡ 2 ^ 64 = sym (pow-add 2 (64 - o) o) ∙ ap (λ k. 2 ^ k) back in
    let below : middle * 2 ^ o < 2 ^ 64 = omega (arith, mul-add-lt middle (2 ^ o) 0 (2 ^ (64 - o)) small (pow_pos o), whole) in
    let apart : (high * 2 ^ (64 - o) + middle) * 2 ^ o ≡ high * 2 ^ (64 - o) * 2 ^ o + middle * 2 ^ o = add-mul (high * 2 ^ (64 - o)) middle (2 ^ o) in
    let front : high * 2 ^ (64 - o) * 2 ^ o ≡ high * 2 ^ 64 = mul_assoc high (2 ^ (64 - o)) (2 ^ o) ∙ ap (λ k. high * k) whole in
    ap (λ k. k % 2 ^ 64) (apart ∙ ap (λ k. k + middle * 2 ^ o) front) ∙ mod_low high 64 (middle * 2 ^ o) below

-- the 64 bits from a bit on: eight bytes moved up, and the first bits of the ninth
pub word_shifted : (bytes : List ℕ) (o word low : ℕ) → o < 8 → 9 ≤ length bytes → word ≡ value (part 0 64 (bits bytes)) → low ≡ value (part 0 o (num 8 (get_or bytes 8 0))) → word * 2 ^ o % 2 ^ 64 + low ≡ value (part o 64 (bits bytes))
word_shifted bytes o word low h l e f =
    let bs = bits bytes in
    let middle = value (part o (64 - o) bs) in
    let size = length-bits bytes in
    let up : 64 ≡ o + (64 - o) = omega arith in
    let back : 64 ≡ 64 - o + o = omega arith in
    let zero_first : 0 + o ≡ o = omega arith in
    let beyond : o + (64 - o) ≡ 64 = omega arith in
    let split : value (part 0 64 bs) ≡ value (part 0 o bs) * 2 ^ (64 - o) + middle = ap (λ k. value (part 0 k bs)) up ∙ value-part_add 0 o (64 - o) bs (omega (arith, size)) ∙ ap (λ k. value (part 0 o bs) * 2 ^ (64 - o) + value (part k (64 - o) bs)) zero_first in
    let moved : word * 2 ^ o % 2 ^ 64 ≡ middle * 2 ^ o = ap (λ k. k * 2 ^ o % 2 ^ 64) (e ∙ split) ∙ moved_up (value (part 0 o bs)) middle o (omega arith) (value-part_below o (64 - o) bs (omega (arith, size))) in
    let last : value (part 64 o bs) ≡ low = ap value (bits-part bytes 8 64 0 o (omega arith) refl (omega arith)) ∙ sym f in
    let joined : value (part o 64 bs) ≡ middle * 2 ^ o + value (part 64 o bs) = ap (λ k. value (part o k bs)) back ∙ value-part_add o (64 - o) o bs (omega (arith, size)) ∙ ap (λ k. middle * 2 ^ o + value (part k o bs)) beyond in
    omega (arith, moved, last, joined)

pub word_room : (bytes : List ℕ) (o word low : ℕ) → o < 8 → 9 ≤ length bytes → word ≡ value (part 0 64 (bits bytes)) → low ≡ value (part 0 o (num 8 (get_or bytes 8 0))) → word * 2 ^ o % 2 ^ 64 + low < 2 ^ 64
word_room bytes o word low h l e f =
    omega (arith, word_shifted bytes o word low h l e f, value-part_below o 64 (bits bytes) (omega (arith, length-bits bytes)))

-- eight bytes written
pub word_written : (bytes new : List ℕ) (n : ℕ) → n < 2 ^ 64 → new ≡ to_be_bytes w64 n → bits (new ++ drop 8 bytes) ≡ replaced 0 (num 64 n) (bits bytes)
word_written bytes new n small made =
    let size : 8 * 8 ≡ 0 + length (num 64 n) = omega (arith, length-num 64 n) in
    bits-append new (drop 8 bytes)
    ∙ ap (λ x. x ++ bits (drop 8 bytes)) (ap bits made ∙ bits-word n small)
    ∙ ap (λ x. num 64 n ++ x) (bits-drop bytes 8 ∙ ap (λ k. drop k (bits bytes)) size)

-- a part as its number
pub number_of_part : (s c : ℕ) (bs : List Bool) → s + c ≤ length bs → num c (value (part s c bs)) ≡ part s c bs
number_of_part s c bs h = ap (λ k. num k (value (part s c bs))) (sym (length-part s c bs h)) ∙ num-value (part s c bs)

-- the words copied so far, with the next one
pub copied_more : (bytes old to new : List ℕ) (o done word : ℕ) → o < 8 → 8 * (done + 1) < length bytes → 8 * (done + 1) ≤ length old → bits to ≡ replaced 0 (part o (64 * done) (bits bytes)) (bits old) → word ≡ value (part o 64 (bits (take (length bytes - 8 * done) (drop (8 * done) bytes)))) → bits new ≡ replaced 0 (num 64 word) (bits (take (length to - 8 * done) (drop (8 * done) to))) → bits (put_mid (8 * done) (length to - 8 * done) to new) ≡ replaced 0 (part o (64 * (done + 1)) (bits bytes)) (bits old)
copied_more bytes old to new o done word small inside room e f made =
    let bs = bits bytes in
    let at = 64 * done in
    let first = part o at bs in
    let all : o + (at + 64) ≤ length bs = omega (arith, length-bits bytes) in
    let size : length first ≡ at = length-part o at bs (omega arith) in
    let same : length (bits to) ≡ length (bits old) = ap length e ∙ length-replaced 0 first (bits old) (omega (arith, size, length-bits old)) in
    let long : length to ≡ length old = omega (arith, same, length-bits to, length-bits old) in
    let next : num 64 word ≡ part (o + at) 64 bs = ap (num 64) (f ∙ ap value (part-rest bytes (8 * done) (o + at) o 64 (omega arith))) ∙ number_of_part (o + at) 64 bs (omega arith) in
    let written = replaced-rest to new (8 * done) at 0 (num 64 word) (omega arith) (omega arith) made in
    let two = replaced_more 0 at first (num 64 word) (bits old) (omega (arith, size)) (omega (arith, length-num 64 word, length-bits old)) in
    let longer : at + 64 ≡ 64 * (done + 1) = omega arith in
    let whole : first ++ num 64 word ≡ part o (64 * (done + 1)) bs = ap (λ l. first ++ l) next ∙ sym (part-add o at 64 bs) ∙ ap (λ k. part o k bs) longer in
    written ∙ ap (replaced at (num 64 word)) e ∙ two ∙ ap (λ l. replaced 0 l (bits old)) whole

-- the bits written so far, from one on, with the next of them
pub written_more : (seen old now : List Bool) (x : List Bool) (start from done count : ℕ) → from ≤ done → done + count ≤ length seen → start + (done + count) ≤ length old → x ≡ part done count seen → now ≡ replaced (start + from) (part from (done - from) seen) old → replaced (start + done) x now ≡ replaced (start + from) (part from (done + count - from) seen) old
written_more seen old now x start from done count order inside room e before =
    let first = part from (done - from) seen in
    let place : from + (done - from) ≡ done = omega arith in
    let size : length first ≡ done - from = length-part from (done - from) seen (omega arith) in
    let next : length x ≡ count = ap length e ∙ length-part done count seen inside in
    let two = replaced_more (start + from) (start + done) first x old (omega (arith, size)) (omega (arith, next)) in
    let longer : done - from + count ≡ done + count - from = omega arith in
    let whole : first ++ x ≡ part from (done + count - from) seen = ap (λ l. first ++ l) (e ∙ ap (λ k. part k count seen) (sym place)) ∙ sym (part-add from (done - from) count seen) ∙ ap (λ k. part from k seen) longer in
    ap (replaced (start + done) x) before ∙ two ∙ ap (λ l. replaced (start + from) l old) whole

-- all bits written in three parts
pub written_by_three : (seen old one two : List Bool) (start front words : ℕ) → front + words ≤ length seen → start + length seen ≤ length old → one ≡ replaced (start + 0) (part 0 (front - 0) seen) old → two ≡ replaced (start + front) (part front words seen) one → replaced (start + (front + words)) (part (front + words) (length seen - (front + words)) seen) two ≡ replaced start seen old
written_by_three seen old one two start front words inside room first second =
    let none : front - 0 ≡ front = omega arith in
    let begin : start + 0 ≡ start = omega arith in
    let two_is : two ≡ replaced (start + 0) (part 0 (front + words - 0) seen) old = second ∙ written_more seen old one (part front words seen) start 0 front words (omega arith) (omega arith) (omega arith) refl first in
    let rest = length seen - (front + words) in
    let end : front + words + rest - 0 ≡ length seen = omega arith in
    let three = written_more seen old two (part (front + words) rest seen) start 0 (front + words) rest (omega arith) (omega arith) (omega arith) refl two_is in
    let all : part 0 (front + words + rest - 0) seen ≡ seen = ap (λ k. part 0 k seen) end ∙ take_all (length seen) seen (omega arith) in
    three ∙ ap (λ l. replaced (start + 0) l old) all ∙ ap (λ k. replaced k seen old) begin

-- a write keeps the number of bytes
pub same_length : (old new : List ℕ) (s : ℕ) (x : List Bool) → s + length x ≤ length (bits old) → bits new ≡ replaced s x (bits old) → length new ≡ length old
same_length old new s x h e = omega (arith, ap length e, length-replaced s x (bits old) h, length-bits new, length-bits old)

-- the same, of a part
pub part_length : (old new : List ℕ) (s a n : ℕ) (seen : List Bool) → a + n ≤ length seen → s + n ≤ length (bits old) → bits new ≡ replaced s (part a n seen) (bits old) → length new ≡ length old
part_length old new s a n seen h k e = same_length old new s (part a n seen) (omega (arith, length-part a n seen h)) e

-- after a first part, words written from a whole byte on
pub words_after : (old one new : List ℕ) (seen : List Bool) (start front words at : ℕ) → front + words ≤ length seen → start + length seen ≤ length (bits old) → 8 * at + 0 ≡ start + front → bits one ≡ replaced (start + 0) (part 0 (front - 0) seen) (bits old) → bits new ≡ replaced 0 (part front words seen) (bits (take (length one - at) (drop at one))) → (bits (put_mid at (length one - at) one new) ≡ replaced (start + front) (part front words seen) (bits one)) × (length (put_mid at (length one - at) one new) ≡ length old)
words_after old one new seen start front words at inside room place first second =
    let same = part_length old one (start + 0) 0 (front - 0) seen (omega arith) (omega arith) first in
    let written = replaced-rest one new at (start + front) 0 (part front words seen) (omega (arith, same, length-bits old)) (omega arith) second in
    let again = part_length one (put_mid at (length one - at) one new) (start + front) front words seen inside (omega (arith, same, length-bits old, length-bits one)) written in
    (written, again ∙ same)
