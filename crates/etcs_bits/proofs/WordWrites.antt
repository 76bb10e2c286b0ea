-- Eight bytes written at once.
use Rattle.std.proofs.Common.{◌≡◌, ℕ, ◌+◌, ◌-◌, ◌*◌, ◌/◌, ◌%◌, ◌^◌, ◌<◌, ◌≤◌, List, ◌++◌, length, take, drop, sym, ap, subst, ◌∙◌, arith}
use Rattle.std.specs.Int.{to_be_bytes, w64}
use Rattle.std.proofs.lemmas.List.{length-take, take-append-drop, take_at}
use Rattle.std.proofs.lemmas.Nat.{field_of, shl-shr, shr_split, shr_below, mod_low, mod_below, mod-pow-add, pow_pos, pow-add, mul-add-lt, one_shl, from_be_bytes-to_be_bytes_8}
use Rattle.std.proofs.Math.Nat.{mod-eq_of_lt}
use Rattle.etcs_bits.specs.Bits.{num, value, bits, part, replaced}
use Rattle.etcs_bits.proofs.Numbers.{length-num, num-value, value_same, value-num}
use Rattle.etcs_bits.proofs.Positions.{length-bits}
use Rattle.etcs_bits.proofs.Lists.{replaced-append_left}
use Rattle.etcs_bits.proofs.ByteBits.{bits-append, num_replaced}
use Rattle.etcs_bits.proofs.Words.{value-eight}

-- the bits in front of a place, as the code finds them
pub word_lower : (word o : ℕ) → o ≤ 64 → word * 2 ^ o % 2 ^ 64 / 2 ^ o ≡ word % 2 ^ (64 - o)
word_lower word o h =
    let whole : 64 ≡ 64 - o + o = omega arith in
    ap (λ k. word * 2 ^ o % 2 ^ k / 2 ^ o) whole ∙ field_of (word * 2 ^ o) (64 - o) o ∙ ap (λ k. k % 2 ^ (64 - o)) (shl-shr word o)

pub word_low : (word w s : ℕ) → word % 2 ^ (w + s) % 2 ^ s ≡ word % 2 ^ s
word_low word w s =
    ap (λ k. k % 2 ^ s) (mod-pow-add word w s) ∙ mod_low (word / 2 ^ s % 2 ^ w) s (word % 2 ^ s) (mod_below word (2 ^ s) (pow_pos s))

-- a number with its middle bits replaced is no longer
pub replaced_below : (o w s b v : ℕ) → b < 2 ^ (o + (w + s)) → v < 2 ^ w → b / 2 ^ (w + s) * 2 ^ (w + s) + v * 2 ^ s + b % 2 ^ s < 2 ^ (o + (w + s))
replaced_below o w s b v hb hv =
    let low : b % 2 ^ s < 2 ^ s = mod_below b (2 ^ s) (pow_pos s) in
    let below : v * 2 ^ s + b % 2 ^ s < 2 ^ (w + s) = omega (arith, mul-add-lt v (2 ^ s) (b % 2 ^ s) (2 ^ w) hv low, pow-add 2 w s) in
    let high : b / 2 ^ (w + s) < 2 ^ o = shr_below b o (w + s) hb in
    omega (arith, mul-add-lt (b / 2 ^ (w + s)) (2 ^ (w + s)) (v * 2 ^ s + b % 2 ^ s) (2 ^ o) high below, pow-add 2 o (w + s))

pub word_small : (o w word v : ℕ) → word < 2 ^ 64 → o + w ≤ 64 → v < 2 ^ w → word / 2 ^ (w + (64 - o - w)) * 2 ^ (w + (64 - o - w)) + v * 2 ^ (64 - o - w) + word % 2 ^ (64 - o - w) < 2 ^ 64
word_small o w word v hb h hv =
    let s = 64 - o - w in
    let order : o + (w + s) ≡ 64 = omega arith in
    let big : word < 2 ^ (o + (w + s)) = subst (λ k. word < 2 ^ k) (sym order) hb in
    subst (λ k. word / 2 ^ (w + s) * 2 ^ (w + s) + v * 2 ^ s + word % 2 ^ s < 2 ^ k) order (replaced_below o w s word v big hv)

-- the three parts, as the code finds them
pub record WordParts (o w word v : ℕ) : Type 0 where
  pub front : word - word * 2 ^ o % 2 ^ 64 / 2 ^ o ≡ word / 2 ^ (w + (64 - o - w)) * 2 ^ (w + (64 - o - w))
  pub middle : v * 2 ^ (64 - o - w) % 2 ^ 64 ≡ v * 2 ^ (64 - o - w)
  pub back : word * 2 ^ o % 2 ^ 64 / 2 ^ o % (1 * 2 ^ (64 - o - w) % 2 ^ 64) ≡ word % 2 ^ (64 - o - w)

pub word_parts : (o w word v : ℕ) → word < 2 ^ 64 → 0 < w → o + w ≤ 64 → v < 2 ^ w → WordParts o w word v
word_parts o w word v hb some h hv =
    let s = 64 - o - w in
    let rest : 64 - o ≡ w + s = omega arith in
    let lower : word * 2 ^ o % 2 ^ 64 / 2 ^ o ≡ word % 2 ^ (w + s) = word_lower word o (omega arith) ∙ ap (λ k. word % 2 ^ k) rest in
    let one : 1 * 2 ^ s % 2 ^ 64 ≡ 2 ^ s = one_shl s 64 (omega arith) in
    let whole : word / 2 ^ (w + s) * 2 ^ (w + s) + word % 2 ^ (w + s) ≡ word = shr_split word (w + s) in
    let small : v * 2 ^ s < 2 ^ 64 = omega (arith, word_small o w word v hb h hv) in
    record {
      front = omega (arith, lower, whole);
      middle = mod-eq_of_lt small;
      back = ap (λ k. k % (1 * 2 ^ s % 2 ^ 64)) lower ∙ ap (λ k. word % 2 ^ (w + s) % k) one ∙ word_low word w s;
    }

pub word_found : (o w word v : ℕ) → word < 2 ^ 64 → 0 < w → o + w ≤ 64 → v < 2 ^ w → word - word * 2 ^ o % 2 ^ 64 / 2 ^ o + v * 2 ^ (64 - o - w) % 2 ^ 64 + word * 2 ^ o % 2 ^ 64 / 2 ^ o % (1 * 2 ^ (64 - o - w) % 2 ^ 64) ≡ word / 2 ^ (w + (64 - o - w)) * 2 ^ (w + (64 - o - w)) + v * 2 ^ (64 - o - w) + word % 2 ^ (64 - o - w)
word_found o w word v hb some h hv =
    let p = word_parts o w word v hb some h hv in
    omega (arith, p.front, p.middle, p.back)

pub word_fits : (o w word v : ℕ) → word < 2 ^ 64 → 0 < w → o + w ≤ 64 → v < 2 ^ w → word - word * 2 ^ o % 2 ^ 64 / 2 ^ o + v * 2 ^ (64 - o - w) % 2 ^ 64 + word * 2 ^ o % 2 ^ 64 / 2 ^ o % (1 * 2 ^ (64 - o - w) % 2 ^ 64) < 2 ^ 64
word_fits o w word v hb some h hv = omega (arith, word_found o w word v hb some h hv, word_small o w word v hb h hv)

pub word_replaced : (o w word v : ℕ) → word < 2 ^ 64 → 0 < w → o + w ≤ 64 → v < 2 ^ w → num 64 (word - word * 2 ^ o % 2 ^ 64 / 2 ^ o + v * 2 ^ (64 - o - w) % 2 ^ 64 + word * 2 ^ o % 2 ^ 64 / 2 ^ o % (1 * 2 ^ (64 - o - w) % 2 ^ 64)) ≡ replaced o (num w v) (num 64 word)
word_replaced o w word v hb some h hv =
    let s = 64 - o - w in
    let order : o + (w + s) ≡ 64 = omega arith in
    ap (num 64) (word_found o w word v hb some h hv)
    ∙ subst (λ k. num k (word / 2 ^ (w + s) * 2 ^ (w + s) + v * 2 ^ s + word % 2 ^ s) ≡ replaced o (num w v) (num k word)) order (num_replaced o w s word v hv)

-- the bytes of a word hold its bits
pub bits-word : (n : ℕ) → n < 2 ^ 64 → bits (to_be_bytes w64 n) ≡ num 64 n
bits-word n h =
    let bytes = to_be_bytes w64 n in
    let below : (k : ℕ) → k % 256 < 2 ^ 8 = λ k. mod_below k 256 (omega arith) in
    let spelt = value-eight (n / 72057594037927936 % 256) (n / 281474976710656 % 256) (n / 1099511627776 % 256) (n / 4294967296 % 256) (n / 16777216 % 256) (n / 65536 % 256) (n / 256 % 256) (n % 256) (below (n / 72057594037927936)) (below (n / 281474976710656)) (below (n / 1099511627776)) (below (n / 4294967296)) (below (n / 16777216)) (below (n / 65536)) (below (n / 256)) (below n) in
    let number : value (bits bytes) ≡ n = sym spelt ∙ from_be_bytes-to_be_bytes_8 n h in
    value_same (bits bytes) (num 64 n) (length-bits bytes ∙ sym (length-num 64 n)) (number ∙ sym (value-num 64 n h))

-- the bytes after the first eight were replaced
pub word_write : (bytes new : List ℕ) (o w word n v : ℕ) → 8 ≤ length bytes → o + w ≤ 64 → n < 2 ^ 64 → word ≡ value (part 0 64 (bits bytes)) → num 64 n ≡ replaced o (num w v) (num 64 word) → new ≡ to_be_bytes w64 n → bits (new ++ drop 8 bytes) ≡ replaced o (num w v) (bits bytes)
word_write bytes new o w word n v l h small e same made =
    let front = take 8 bytes in
    let rest = bits (drop 8 bytes) in
    let first = part 0 64 (bits bytes) in
    let whole : bits bytes ≡ bits front ++ rest = ap bits (sym (take-append-drop 8 bytes)) ∙ bits-append front (drop 8 bytes) in
    let size : length (bits front) ≡ 64 = omega (arith, length-bits front, length-take 8 bytes) in
    let begins : first ≡ bits front = ap (take 64) whole ∙ take_at (bits front) rest 64 size in
    let long : length first ≡ 64 = ap length begins ∙ size in
    let spelt : num 64 word ≡ bits front = ap (num 64) e ∙ ap (λ k. num k (value first)) (sym long) ∙ num-value first ∙ begins in
    let now : bits new ≡ replaced o (num w v) (bits front) = ap bits made ∙ bits-word n small ∙ same ∙ ap (replaced o (num w v)) spelt in
    bits-append new (drop 8 bytes) ∙ ap (λ x. x ++ rest) now
    ∙ sym (replaced-append_left (bits front) rest (num w v) o (omega (arith, size, length-num w v)))
    ∙ ap (replaced o (num w v)) (sym whole)
