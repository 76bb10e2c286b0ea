-- One step of reading or writing, and the bytes from one byte on.
use Rattle.std.proofs.Common.{◌≡◌, ℕ, ◌+◌, ◌-◌, ◌*◌, ◌/◌, ◌%◌, ◌^◌, ◌<◌, ◌≤◌, ◌≢◌, inl, inr, Bool, List, [], ◌++◌, length, take, drop, get_or, sym, ap, subst, ◌∙◌, arith}
use Rattle.std.proofs.lemmas.List.{length-take, length-drop, take_rest, drop_all, append-nil, take-append-drop}
use Rattle.std.proofs.Math.ListN.{set}
use Rattle.std.proofs.lemmas.Nat.{shr-shr, mod_below, pow_pos, one_shl, shr_below, shr_split}
use Rattle.std.proofs.lemmas.Bool.{cases_lt}
use Rattle.std.proofs.Math.Nat.{mod-eq_of_lt}
use Rattle.std.proofs.Math.Pow.{pow_mono}
use borrow.Rule.Slice.PartMut.{put_mid}
use Rattle.etcs_bits.specs.Bits.{num, value, bits, part, replaced}
use Rattle.etcs_bits.proofs.Numbers.{length-num, num-add, value_below}
use Rattle.etcs_bits.proofs.Positions.{length-bits}
use Rattle.etcs_bits.proofs.Lists.{part-drop, length-part, value-part_add, replaced_more, replaced_none, replaced-append_right}
use Rattle.etcs_bits.proofs.ByteBits.{bits-append, bits-drop, bits-part, bits-set, num_low}

-- the next bits of a number that is read
pub read_more : (bytes : List ℕ) (o done count at from number piece : ℕ) → 8 * at + from ≡ o + done → from + count ≤ 8 → at < length bytes → o + (done + count) ≤ length (bits bytes) → number ≡ value (part o done (bits bytes)) → piece ≡ value (part from count (num 8 (get_or bytes at 0))) → number * 2 ^ count + piece ≡ value (part o (done + count) (bits bytes))
read_more bytes o done count at from number piece place short inside all e f =
    let here : part (o + done) count (bits bytes) ≡ part from count (num 8 (get_or bytes at 0)) = bits-part bytes at (o + done) from count inside (sym place) short in
    let next = value-part_add o done count (bits bytes) all in
    let a : number * 2 ^ count ≡ value (part o done (bits bytes)) * 2 ^ count = ap (λ k. k * 2 ^ count) e in
    let b : piece ≡ value (part (o + done) count (bits bytes)) = f ∙ ap value (sym here) in
    omega (arith, next, a, b)

-- a part's number fits its width
pub value-part_below : (o w : ℕ) (bs : List Bool) → o + w ≤ length bs → value (part o w bs) < 2 ^ w
value-part_below o w bs h = subst (λ k. value (part o w bs) < 2 ^ k) (length-part o w bs h) (value_below (part o w bs))

pub number_room : (bytes : List ℕ) (o n w : ℕ) → o + w ≤ length (bits bytes) → w ≤ 64 → n ≡ value (part o w (bits bytes)) → n < 2 ^ 64
number_room bytes o n w h k e =
    let p : 2 ^ w ≤ 2 ^ 64 = pow_mono k in
    omega (arith, value-part_below o w (bits bytes) h, p)

-- the same as the code finds it
pub read_next : (bytes : List ℕ) (o done count at from number piece : ℕ) → 8 * at + from ≡ o + done → from + count ≤ 8 → at < length bytes → o + (done + count) ≤ length (bits bytes) → done + count ≤ 64 → number ≡ value (part o done (bits bytes)) → piece ≡ value (part from count (num 8 (get_or bytes at 0))) → number * 2 ^ count % 2 ^ 64 + piece ≡ value (part o (done + count) (bits bytes))
read_next bytes o done count at from number piece place short inside all wide e f =
    let whole = read_more bytes o done count at from number piece place short inside all e f in
    let room = number_room bytes o (number * 2 ^ count + piece) (done + count) all wide whole in
    let small : number * 2 ^ count < 2 ^ 64 = omega arith in
    let same : number * 2 ^ count % 2 ^ 64 ≡ number * 2 ^ count = mod-eq_of_lt small in
    omega (arith, same, whole)

-- the next bits of a number that is written
pub write_more : (old bytes : List ℕ) (o done count at from left v piece byte : ℕ) → 8 * at + from ≡ o + done → from + count ≤ 8 → at < length bytes → o + (done + count) ≤ length (bits old) → bits bytes ≡ replaced o (num done (v / 2 ^ (left + count))) (bits old) → piece ≡ v / 2 ^ left % 2 ^ count → num 8 byte ≡ replaced from (num count piece) (num 8 (get_or bytes at 0)) → bits (set bytes at byte) ≡ replaced o (num (done + count) (v / 2 ^ left)) (bits old)
write_more old bytes o done count at from left v piece byte place short inside all e f same =
    let first = num done (v / 2 ^ (left + count)) in
    let second = num count piece in
    let set_is : bits (set bytes at byte) ≡ replaced (o + done) second (bits bytes) = bits-set bytes at (o + done) from byte second inside (sym place) (omega (arith, length-num count piece)) same in
    let two : replaced (o + done) second (replaced o first (bits old)) ≡ replaced o (first ++ second) (bits old) = replaced_more o (o + done) first second (bits old) (omega (arith, length-num done (v / 2 ^ (left + count)))) (omega (arith, length-num count piece)) in
    let twice : piece % 2 ^ count ≡ v / 2 ^ left % 2 ^ count = ap (λ k. k % 2 ^ count) f ∙ mod-eq_of_lt (mod_below (v / 2 ^ left) (2 ^ count) (pow_pos count)) in
    let low : second ≡ num count (v / 2 ^ left) = num_low count piece (v / 2 ^ left) twice in
    let high : first ≡ num done (v / 2 ^ left / 2 ^ count) = ap (num done) (sym (shr-shr v left count)) in
    let whole : first ++ second ≡ num (done + count) (v / 2 ^ left) = cc (num-add done count (v / 2 ^ left), low, high) in
    set_is ∙ ap (replaced (o + done) second) e ∙ two ∙ ap (λ x. replaced o x (bits old)) whole

-- the bytes from one byte on hold the rest of the bits
pub rest_inside : (bytes : List ℕ) (i n o w : ℕ) → n ≡ 8 * i + o → n + w ≤ length (bits bytes) → o + w ≤ length (bits (take (length bytes - i) (drop i bytes)))
rest_inside bytes i n o w e h =
    omega (arith, length-bits (take (length bytes - i) (drop i bytes)), length-take (length bytes - i) (drop i bytes), length-drop i bytes, length-bits bytes)

pub part-rest : (bytes : List ℕ) (i n o w : ℕ) → n ≡ 8 * i + o → part o w (bits (take (length bytes - i) (drop i bytes))) ≡ part n w (bits bytes)
part-rest bytes i n o w e =
    ap (λ l. part o w (bits l)) (take_rest bytes i) ∙ ap (part o w) (bits-drop bytes i) ∙ part-drop (8 * i) o w (bits bytes) ∙ ap (λ k. part k w (bits bytes)) (sym e)

-- the bytes after a write from one byte on
pub replaced-rest : (bytes new : List ℕ) (i n o : ℕ) (x : List Bool) → i ≤ length bytes → n ≡ 8 * i + o → bits new ≡ replaced o x (bits (take (length bytes - i) (drop i bytes))) → bits (put_mid i (length bytes - i) bytes new) ≡ replaced n x (bits bytes)
replaced-rest bytes new i n o x h e same =
    let front = take i bytes in
    let rest = drop i bytes in
    let none : drop (length bytes - i) rest ≡ [] = drop_all (length bytes - i) rest (omega (arith, length-drop i bytes)) in
    let size : length (bits front) ≡ 8 * i = omega (arith, length-bits front, length-take i bytes) in
    let written : put_mid i (length bytes - i) bytes new ≡ front ++ new = ap (λ l. front ++ (new ++ l)) none ∙ ap (λ l. front ++ l) (append-nil new) in
    let now : bits new ≡ replaced o x (bits rest) = same ∙ ap (λ l. replaced o x (bits l)) (take_rest bytes i) in
    let whole : bits bytes ≡ bits front ++ bits rest = ap bits (sym (take-append-drop i bytes)) ∙ bits-append front rest in
    ap bits written ∙ bits-append front new ∙ ap (λ l. bits front ++ l) now
    ∙ sym (replaced-append_right (bits front) (bits rest) x n o (omega (arith, size))) ∙ ap (replaced n x) (sym whole)

-- no bits written
pub written_none : (bytes : List ℕ) (o width v : ℕ) → width ≤ 0 → bits bytes ≡ replaced o (num width v) (bits bytes)
unfolding num
written_none bytes o width v h =
    let e : width ≡ 0 = omega arith in
    rw e (sym (replaced_none o (bits bytes)))

-- nothing written yet
pub write_none : (bytes : List ℕ) (o width v : ℕ) → bits bytes ≡ replaced o (num (width - width) (v / 2 ^ width)) (bits bytes)
write_none bytes o width v = written_none bytes o (width - width) (v / 2 ^ width) (omega arith)

-- a step of a write, as the code finds it
pub write_next : (old bytes : List ℕ) (o width left count at from v piece byte : ℕ) → left ≤ width → count ≤ left → 8 * at + from ≡ o + (width - left) → from + count ≤ 8 → at < length bytes → o + width ≤ length (bits old) → bits bytes ≡ replaced o (num (width - left) (v / 2 ^ left)) (bits old) → piece ≡ v / 2 ^ (left - count) % (1 * 2 ^ count % 2 ^ 64) → num 8 byte ≡ replaced from (num count piece) (num 8 (get_or bytes at 0)) → bits (set bytes at byte) ≡ replaced o (num (width - (left - count)) (v / 2 ^ (left - count))) (bits old)
write_next old bytes o width left count at from v piece byte below some place short inside all e f same =
    let rest = left - count in
    let back : left ≡ rest + count = omega arith in
    let before : bits bytes ≡ replaced o (num (width - left) (v / 2 ^ (rest + count))) (bits old) = e ∙ ap (λ k. replaced o (num (width - left) (v / 2 ^ k)) (bits old)) back in
    let one : 1 * 2 ^ count % 2 ^ 64 ≡ 2 ^ count = one_shl count 64 (omega arith) in
    let digits : piece ≡ v / 2 ^ rest % 2 ^ count = f ∙ ap (λ k. v / 2 ^ rest % k) one in
    let whole : width - left + count ≡ width - rest = omega arith in
    write_more old bytes o (width - left) count at from rest v piece byte place short inside (omega arith) before digits same
    ∙ ap (λ k. replaced o (num k (v / 2 ^ rest)) (bits old)) whole

-- all written
pub write_all : (bs : List Bool) (o width left v : ℕ) → left ≤ 0 → replaced o (num (width - left) (v / 2 ^ left)) bs ≡ replaced o (num width v) bs
write_all bs o width left v h =
    let none : left ≡ 0 = omega arith in
    let a : width - left ≡ width = omega arith in
    let b : v / 2 ^ left ≡ v = ap (λ k. v / 2 ^ k) none ∙ omega arith in
    cc

pub too_large : (v w : ℕ) → v / 2 ^ w ≢ 0 → 2 ^ w ≤ v
too_large v w h =
    elim (cases_lt v (2 ^ w)) [
      | inl lt ↦
          let e : 0 + w ≡ w = omega arith in
          let small : v < 2 ^ (0 + w) = rw e lt in
          absurd (omega (arith, h, shr_below v 0 w small))
      | inr le ↦ le
    ]

pub fits_width : (v w : ℕ) → v / 2 ^ w ≡ 0 → v < 2 ^ w
fits_width v w h =
    let whole : v / 2 ^ w * 2 ^ w + v % 2 ^ w ≡ v = shr_split v w in
    let none : v / 2 ^ w * 2 ^ w ≡ 0 = ap (λ k. k * 2 ^ w) h ∙ omega arith in
    omega (arith, mod_below v (2 ^ w) (pow_pos w))

pub fits_whole : (v w : ℕ) → v < 2 ^ 64 → 64 ≤ w → w ≤ 64 → v < 2 ^ w
fits_whole v w h a b =
    let e : w ≡ 64 = omega arith in
    rw e h
