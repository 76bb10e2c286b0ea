-- The first bits of a word.
use Rattle.std.proofs.Common.{◌≡◌, ℕ, zero, suc, ◌+◌, ◌-◌, ◌*◌, ◌/◌, ◌%◌, ◌^◌, ◌<◌, ◌≤◌, Bool, true, false, List, [], ◌∷◌, ◌++◌, length, take, drop, replicate, get_or, Some, None, leb, refl, sym, ap, subst, ◌∙◌, append_assoc, arith}
use Rattle.std.proofs.lemmas.Bool.{le-leb}
use Rattle.std.proofs.lemmas.List.{length-append, length-drop, length-take, length-replicate, take_all, take_at, take_more, take-take, take-append-le, take-append-drop, take-replicate, append-nil}
use Rattle.std.proofs.lemmas.Nat.{mod_low, pow_pos, shl_whole, shl-shr}
use Rattle.std.proofs.Math.Nat.{mod-eq_of_lt}
use Rattle.std.proofs.Math.Pow.{pow_mono}
use Rattle.std.proofs.Math.Seq.{take-add, take-append-add}
use Rattle.etcs_bits.specs.Bits.{num, value, bits, part, number_at}
use Rattle.etcs_bits.proofs.ByteBits.{bits-append, num_low}
use Rattle.etcs_bits.proofs.Copies.{number_of_part}
use Rattle.etcs_bits.proofs.Kept.{front}
use Rattle.etcs_bits.proofs.Lists.{value-part_add}
use Rattle.etcs_bits.proofs.Numbers.{length-num, num-add, num-value, value-append, value-num_low, value_below, value_same}
use Rattle.etcs_bits.proofs.Owned.{Packed}
use Rattle.etcs_bits.proofs.Positions.{length-bits}
use Rattle.etcs_bits.proofs.Steps.{value-part_below}
use Rattle.etcs_bits.proofs.Words.{value-bytes}

-- fewer of the bits that a word begins with
pub word_front : (word : ℕ) (bs : List Bool) (s c n : ℕ) → n ≤ c → c ≤ 64 → s + c ≤ length bs → word / 2 ^ (64 - c) ≡ value (part s c bs) → word / 2 ^ (64 - n) ≡ value (part s n bs)
word_front word bs s c n le small inside is =
    let j = c - n in
    let whole : n + j ≡ c = omega (arith, le) in
    let split : value (part s c bs) ≡ value (part s n bs) * 2 ^ j + value (part (s + n) j bs) = ap (λ k. value (part s k bs)) (sym whole) ∙ value-part_add s n j bs (omega (arith, le, inside)) in
    front word (value (part s n bs)) (value (part (s + n) j bs)) (64 - c) j (64 - n) (is ∙ split) (value-part_below (s + n) j bs (omega (arith, le, inside))) (omega (arith, le, small))

-- the last of the bits that a word begins with
pub word_num : (word : ℕ) (bs : List Bool) (s n from count : ℕ) → n ≡ from + count → s + n ≤ length bs → word / 2 ^ (64 - n) ≡ value (part s n bs) → num count (word / 2 ^ (64 - n)) ≡ part (s + from) count bs
word_num word bs s n from count e inside is =
    let hi = value (part s from bs) in
    let lo = value (part (s + from) count bs) in
    let low : lo < 2 ^ count = value-part_below (s + from) count bs (omega (arith, e, inside)) in
    let both : value (part s n bs) ≡ hi * 2 ^ count + lo = ap (λ k. value (part s k bs)) e ∙ value-part_add s from count bs (omega (arith, e, inside)) in
    ap (num count) (is ∙ both)
    ∙ num_low count (hi * 2 ^ count + lo) lo (mod_low hi count lo low ∙ sym (mod-eq_of_lt low))
    ∙ number_of_part (s + from) count bs (omega (arith, e, inside))

-- bits that are inside are found
pub found_inside : (s c : ℕ) (bs : List Bool) → s + c ≤ length bs → number_at s c bs ≡ None → ⊥
found_inside s c bs h none =
    let t : leb (s + c) (length bs) ≡ true = le-leb _ _ h in
    let some : Some (value (part s c bs)) ≡ None = rw t at none in
    absurd cc

-- ---- Zeros after the last bit.

value-falses : (n : ℕ) → value (replicate n false) ≡ 0
value-falses zero = refl
value-falses (suc n) = omega (arith, value-falses n)

num-zeros : (w k : ℕ) → num w (k * 2 ^ w) ≡ replicate w false
num-zeros w k =
    let none : k * 2 ^ w % 2 ^ w ≡ 0 = ap (λ x. x % 2 ^ w) (omega arith) ∙ mod_low k w 0 (pow_pos w) in
    value_same (num w (k * 2 ^ w)) (replicate w false) (length-num w (k * 2 ^ w) ∙ sym (length-replicate w false)) (value-num_low w (k * 2 ^ w) ∙ none ∙ sym (value-falses w))

-- bits moved to the front of a word
pub moved : (k left : ℕ) (p : List Bool) → left ≤ 64 → length p ≡ left → k ≡ value p → num 64 (k * 2 ^ (64 - left) % 2 ^ 64) ≡ p ++ replicate (64 - left) false
moved k left p small size is =
    let m = 64 - left in
    let n = k * 2 ^ m in
    let below : k < 2 ^ left = subst (λ l. k < 2 ^ l) size (subst (λ x. x < 2 ^ length p) (sym is) (value_below p)) in
    let fits : n % 2 ^ 64 ≡ n = shl_whole k left m 64 below (omega (arith, small)) in
    let whole : 64 ≡ left + m = omega (arith, small) in
    let first : num left (n / 2 ^ m) ≡ p = ap (num left) (shl-shr k m ∙ is) ∙ ap (λ l. num l (value p)) (sym size) ∙ num-value p in
    ap (num 64) fits ∙ ap (λ w. num w n) whole ∙ num-add left m n ∙ ap (λ x. x ++ num m n) first ∙ ap (λ x. p ++ x) (num-zeros m k)

-- the last bits of a list, in a word
pub padded_word : (word : ℕ) (seen : List Bool) (from left : ℕ) → from + left ≡ length seen → left ≤ 64 → word / 2 ^ (64 - left) ≡ value (part from left seen) → num 64 (word / 2 ^ (64 - left) * 2 ^ (64 - left) % 2 ^ 64) ≡ take 64 (drop from seen ++ replicate 64 false)
padded_word word seen from left all small is =
    let p = drop from seen in
    let size : length p ≡ left = omega (arith, length-drop from seen, all) in
    let rest : take left p ≡ p = take_all left p (omega (arith, size)) in
    let whole : 64 ≡ length p + (64 - left) = omega (arith, size, small) in
    moved (word / 2 ^ (64 - left)) left p small size (is ∙ ap value rest)
    ∙ sym (ap (λ k. take k (p ++ replicate 64 false)) whole ∙ take-append-add p (replicate 64 false) (64 - left) ∙ ap (λ x. p ++ x) (take-replicate (64 - left) 64 false (omega arith)))

pub full_word : (word : ℕ) (seen : List Bool) (from : ℕ) → from + 64 ≤ length seen → word / 2 ^ (64 - 64) ≡ value (part from 64 seen) → num 64 word ≡ take 64 (drop from seen ++ replicate 64 false)
full_word word seen from inside is =
    let same : word ≡ value (part from 64 seen) = omega (arith, is) in
    ap (num 64) same ∙ number_of_part from 64 seen inside ∙ sym (take-append-le 64 (drop from seen) (replicate 64 false) (omega (arith, length-drop from seen, inside)))

-- ---- At most eight bytes.

nothing : value (bits []) ≡ 0
unfolding bits
nothing = refl

pub no_bits : 0 ≡ value (bits [])
no_bits = sym nothing

-- one byte more
pub last_more : (bytes : List ℕ) (i word b : ℕ) → i < length bytes → length bytes ≤ 8 → word ≡ value (bits (take i bytes)) → b ≡ get_or bytes i 0 → b < 2 ^ 8 → word * 256 % 2 ^ 64 + b ≡ value (bits (take (i + 1) bytes))
last_more bytes i word b inside most is e small =
    let before = bits (take i bytes) in
    let size : length before ≡ 8 * i = omega (arith, length-bits (take i bytes), length-take i bytes, inside) in
    let short : length before ≤ 56 = omega (arith, size, inside, most) in
    let power : 2 ^ length before ≤ 2 ^ 56 = pow_mono short in
    let below : word < 2 ^ 56 = omega (arith, is, value_below before, power) in
    let next = value-bytes b [] small in
    let none : value (bits []) ≡ 0 = nothing in
    let long : length (bits (b ∷ [])) ≡ 8 = length-bits (b ∷ []) in
    let more : take (i + 1) bytes ≡ take i bytes ++ b ∷ [] = take_more bytes i 0 inside ∙ ap (λ x. take i bytes ++ x ∷ []) (sym e) in
    let all : value (bits (take (i + 1) bytes)) ≡ value before * 2 ^ 8 + value (bits (b ∷ [])) =
    ap (λ l. value (bits l)) more ∙ ap value (bits-append (take i bytes) (b ∷ [])) ∙ value-append before (bits (b ∷ [])) ∙ ap (λ l. value before * 2 ^ l + value (bits (b ∷ []))) long in
    omega (arith, all, next, none, is, below)

-- ---- Bits added word by word.

-- whole words
pub filled_more : (seen old new : List Bool) (from word : ℕ) → from + 64 ≤ length seen → old ≡ take from seen → num 64 word ≡ take 64 (drop from seen ++ replicate 64 false) → new ≡ old ++ take (8 * 8) (num 64 word) → new ≡ take (from + 64) seen
filled_more seen old new from word inside before is e =
    let p = drop from seen in
    let next : take 64 (num 64 word) ≡ take 64 p =
    take_all 64 (num 64 word) (omega (arith, length-num 64 word)) ∙ is ∙ take-append-le 64 p (replicate 64 false) (omega (arith, length-drop from seen, inside)) in
    e ∙ ap (λ x. old ++ x) next ∙ ap (λ x. x ++ take 64 p) before ∙ sym (take-add from 64 seen)

-- the last bits, with zeros up to whole bytes
pub filled_last : (seen old new : List Bool) (from left k word : ℕ) → from + left ≡ length seen → left ≤ 8 * k → k ≤ 8 → old ≡ take from seen → num 64 word ≡ take 64 (drop from seen ++ replicate 64 false) → new ≡ old ++ take (8 * k) (num 64 word) → new ≡ seen ++ replicate (8 * k - left) false
filled_last seen old new from left k word all enough most before is e =
    let p = drop from seen in
    let zeros = replicate 64 false in
    let m = 8 * k - left in
    let size : length p ≡ left = omega (arith, length-drop from seen, all) in
    let whole : 8 * k ≡ length p + m = omega (arith, size, enough) in
    let next : take (8 * k) (num 64 word) ≡ p ++ replicate m false =
    ap (take (8 * k)) is ∙ take-take (8 * k) 64 (p ++ zeros) (omega (arith, most)) ∙ ap (λ n. take n (p ++ zeros)) whole ∙ take-append-add p zeros m ∙ ap (λ x. p ++ x) (take-replicate m 64 false (omega (arith, most))) in
    e ∙ ap (λ x. old ++ x) next ∙ ap (λ x. x ++ (p ++ replicate m false)) before ∙ sym (append_assoc (take from seen) p (replicate m false)) ∙ ap (λ x. x ++ replicate m false) (take-append-drop from seen)

-- what `Bits` keeps of such bytes
pub filled_packed : (bytes : List ℕ) (seen : List Bool) (len z : ℕ) → length seen ≡ len → z < 8 → bits bytes ≡ seen ++ replicate z false → Packed bytes len × (take len (bits bytes) ≡ seen)
filled_packed bytes seen len z size short e =
    let total : 8 * length bytes ≡ len + z = omega (arith, length-bits bytes, ap length e, length-append seen (replicate z false), length-replicate z false, size) in (
      record {
        inside = omega (arith, total);
        short = omega (arith, total, short);
      },
      ap (take len) e ∙ take_at seen (replicate z false) len size,
    )

-- none at first
pub filled_none : (bytes : List ℕ) (seen : List Bool) (n : ℕ) → length bytes ≡ 0 → bits bytes ≡ take (n - n) seen
unfolding bits
filled_none [] seen n e = let z : n - n ≡ 0 = omega arith in rw z refl
filled_none (b ∷ bs) seen n e = absurd (omega (arith, e))

-- all where nothing is left
pub filled_whole : (bytes : List ℕ) (seen : List Bool) (len left : ℕ) → length seen ≡ len → left ≡ 0 → bits bytes ≡ take (len - left) seen → Packed bytes len × (take len (bits bytes) ≡ seen)
filled_whole bytes seen len left size none e =
    let whole : len - left ≡ length seen = omega (arith, size, none) in
    filled_packed bytes seen len 0 size (omega arith) (e ∙ ap (λ k. take k seen) whole ∙ take_all (length seen) seen (omega arith) ∙ sym (append-nil seen))
