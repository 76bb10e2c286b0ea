-- The bits of bytes: reading and writing one byte's.
use Rattle.std.proofs.Common.{◌≡◌, ℕ, zero, suc, ◌+◌, ◌-◌, ◌*◌, ◌/◌, ◌%◌, ◌^◌, ◌<◌, ◌≤◌, Bool, List, [], ◌∷◌, ◌++◌, length, take, drop, get_or, refl, sym, ap, subst, ◌∙◌, append_assoc, arith}
use Rattle.std.proofs.lemmas.List.{take_at, drop_at, drop_all, drop-drop}
use Rattle.std.proofs.Math.ListN.{set}
use Rattle.std.proofs.lemmas.Nat.{shr_high, mod_low, mod_below, pow_pos, pow-add, mul-add-lt, one_shl, shr_below}
use Rattle.std.proofs.Math.Nat.{mod-eq_of_lt}
use Rattle.std.proofs.Math.Seq.{drop-append-add}
use Rattle.etcs_bits.specs.Bits.{num, value, bits, part, replaced}
use Rattle.etcs_bits.proofs.Numbers.{length-num, num-add, value_same, value-num_low}
use Rattle.etcs_bits.proofs.Lists.{part-append_right, part-append_left, replaced-append_right, replaced-append_left}

-- bytes after one another
pub bits-append : (xs ys : List ℕ) → bits (xs ++ ys) ≡ bits xs ++ bits ys
unfolding bits
bits-append [] ys = refl
bits-append (x ∷ xs) ys = ap (λ l. num 8 x ++ l) (bits-append xs ys) ∙ sym (append_assoc (num 8 x) (bits xs) (bits ys))

-- bytes left out at the start
pub bits-drop : (bytes : List ℕ) (i : ℕ) → bits (drop i bytes) ≡ drop (8 * i) (bits bytes)
unfolding bits
bits-drop bytes zero = refl
bits-drop [] (suc i) = sym (drop_all (8 * suc i) (bits []) (omega arith))
bits-drop (b ∷ bytes) (suc i) =
    let e : 8 * suc i ≡ length (num 8 b) + 8 * i = omega (arith, length-num 8 b) in
    bits-drop bytes i ∙ sym (drop-append-add (num 8 b) (bits bytes) (8 * i)) ∙ sym (ap (λ k. drop k (num 8 b ++ bits bytes)) e)

-- a part of one byte
pub bits-part : (bytes : List ℕ) (i n o c : ℕ) → i < length bytes → n ≡ 8 * i + o → o + c ≤ 8 → part n c (bits bytes) ≡ part o c (num 8 (get_or bytes i 0))
unfolding bits
bits-part [] i n o c h e k = absurd (omega arith)
bits-part (b ∷ bytes) zero n o c h e k =
    let m : n ≡ o = omega arith in
    rw m (part-append_left (num 8 b) (bits bytes) o c (omega (arith, length-num 8 b)))
bits-part (b ∷ bytes) (suc i) n o c h e k =
    part-append_right (num 8 b) (bits bytes) n (8 * i + o) c (omega (arith, length-num 8 b)) ∙ bits-part bytes i (8 * i + o) o c (omega arith) refl k

-- a part of one byte replaced
pub bits-set : (bytes : List ℕ) (i n o byte : ℕ) (new : List Bool) → i < length bytes → n ≡ 8 * i + o → o + length new ≤ 8 → num 8 byte ≡ replaced o new (num 8 (get_or bytes i 0)) → bits (set bytes i byte) ≡ replaced n new (bits bytes)
unfolding bits
bits-set [] i n o byte new h e k same = absurd (omega arith)
bits-set (b ∷ bytes) zero n o byte new h e k same =
    let m : n ≡ o = omega arith in
    ap (λ l. l ++ bits bytes) same
    ∙ sym (replaced-append_left (num 8 b) (bits bytes) new o (omega (arith, length-num 8 b)))
    ∙ ap (λ k. replaced k new (num 8 b ++ bits bytes)) (sym m)
bits-set (b ∷ bytes) (suc i) n o byte new h e k same =
    ap (λ l. num 8 b ++ l) (bits-set bytes i (8 * i + o) o byte new (omega arith) refl k same)
    ∙ sym (replaced-append_right (num 8 b) (bits bytes) new n (8 * i + o) (omega (arith, length-num 8 b)))

-- the middle of a number's bits
pub num_part : (o w s n : ℕ) → part o w (num (o + (w + s)) n) ≡ num w (n / 2 ^ s)
num_part o w s n =
    rw (num-add o (w + s) n) (ap (take w) (drop_at (num o (n / 2 ^ (w + s))) (num (w + s) n) o (length-num o (n / 2 ^ (w + s)))) ∙ rw (num-add w s n) (take_at (num w (n / 2 ^ s)) (num s n) w (length-num w (n / 2 ^ s))))

-- only the lowest bits count
pub num_low : (w m n : ℕ) → m % 2 ^ w ≡ n % 2 ^ w → num w m ≡ num w n
num_low w m n e = value_same (num w m) (num w n) (length-num w m ∙ sym (length-num w n)) (value-num_low w m ∙ e ∙ sym (value-num_low w n))

-- the number with its middle bits replaced
pub num_replaced : (o w s b v : ℕ) → v < 2 ^ w → num (o + (w + s)) (b / 2 ^ (w + s) * 2 ^ (w + s) + v * 2 ^ s + b % 2 ^ s) ≡ replaced o (num w v) (num (o + (w + s)) b)
num_replaced o w s b v h =
    let high = b / 2 ^ (w + s) in
    let middle = v * 2 ^ s + b % 2 ^ s in
    let whole = high * 2 ^ (w + s) + v * 2 ^ s + b % 2 ^ s in
    let split : whole ≡ high * 2 ^ (w + s) + middle = omega arith in
    let low : b % 2 ^ s < 2 ^ s = mod_below b (2 ^ s) (pow_pos s) in
    let below : middle < 2 ^ (w + s) = omega (arith, mul-add-lt v (2 ^ s) (b % 2 ^ s) (2 ^ w) h low, pow-add 2 w s) in
    let a : whole / 2 ^ (w + s) ≡ high = ap (λ k. k / 2 ^ (w + s)) split ∙ shr_high high (w + s) middle below in
    let m : whole % 2 ^ (w + s) ≡ middle % 2 ^ (w + s) = ap (λ k. k % 2 ^ (w + s)) split ∙ mod_low high (w + s) middle below ∙ sym (mod-eq_of_lt below) in
    let c : middle / 2 ^ s ≡ v = shr_high v s (b % 2 ^ s) low in
    let d : middle % 2 ^ s ≡ b % 2 ^ s = mod_low v s (b % 2 ^ s) low in
    let back : num (w + s) whole ≡ num w v ++ num s b = num_low (w + s) whole middle m ∙ num-add w s middle ∙ cc (ap (num w) c, num_low s middle b d) in
    let left : num (o + (w + s)) whole ≡ num o high ++ (num w v ++ num s b) = num-add o (w + s) whole ∙ cc (ap (num o) a) in
    let bits : num (o + (w + s)) b ≡ num o high ++ num (w + s) b = num-add o (w + s) b in
    let front : take o (num (o + (w + s)) b) ≡ num o high = ap (take o) bits ∙ take_at (num o high) (num (w + s) b) o (length-num o high) in
    let rest : drop o (num (o + (w + s)) b) ≡ num (w + s) b = ap (drop o) bits ∙ drop_at (num o high) (num (w + s) b) o (length-num o high) in
    let beyond : drop (o + w) (num (o + (w + s)) b) ≡ num s b = sym (drop-drop w o (num (o + (w + s)) b)) ∙ ap (drop w) (rest ∙ num-add w s b) ∙ drop_at (num w (b / 2 ^ s)) (num s b) w (length-num w (b / 2 ^ s)) in
    let n : drop (o + length (num w v)) (num (o + (w + s)) b) ≡ num s b = ap (λ k. drop (o + k) (num (o + (w + s)) b)) (length-num w v) ∙ beyond in
    left ∙ sym (append_assoc (num o high) (num w v) (num s b)) ∙ cc

-- the same as the code finds it
pub byte_read : (b x o w : ℕ) → x ≡ b → o + w ≤ 8 → x / 2 ^ (8 - o - w) % (1 * 2 ^ w % 2 ^ 64) ≡ value (part o w (num 8 b))
byte_read b x o w e h =
    let s = 8 - o - w in
    let whole : 8 ≡ o + (w + s) = omega arith in
    let one : 1 * 2 ^ w % 2 ^ 64 ≡ 2 ^ w = one_shl w 64 (omega arith) in
    let found : value (part o w (num (o + (w + s)) b)) ≡ b / 2 ^ s % 2 ^ w = ap value (num_part o w s b) ∙ value-num_low w (b / 2 ^ s) in
    let same : value (part o w (num 8 b)) ≡ value (part o w (num (o + (w + s)) b)) = ap (λ k. value (part o w (num k b))) whole in
    let a : x / 2 ^ s % (1 * 2 ^ w % 2 ^ 64) ≡ b / 2 ^ s % 2 ^ w = cc in
    a ∙ sym (same ∙ found)

pub number_small : (o w s b v : ℕ) → o + (w + s) ≡ 8 → b < 2 ^ 8 → v < 2 ^ w → b / 2 ^ (w + s) * 2 ^ (w + s) + v * 2 ^ s + b % 2 ^ s < 2 ^ 8
number_small o w s b v e hb hv =
    let low : b % 2 ^ s < 2 ^ s = mod_below b (2 ^ s) (pow_pos s) in
    let below : v * 2 ^ s + b % 2 ^ s < 2 ^ (w + s) = omega (arith, mul-add-lt v (2 ^ s) (b % 2 ^ s) (2 ^ w) hv low, pow-add 2 w s) in
    let size : 2 ^ 8 ≡ 2 ^ o * 2 ^ (w + s) = ap (λ k. 2 ^ k) (sym e) ∙ pow-add 2 o (w + s) in
    let high : b / 2 ^ (w + s) < 2 ^ o = shr_below b o (w + s) (omega (arith, hb, ap (λ k. 2 ^ k) e)) in
    omega (arith, mul-add-lt (b / 2 ^ (w + s)) (2 ^ (w + s)) (v * 2 ^ s + b % 2 ^ s) (2 ^ o) high below, size)

pub number_found : (o w b x v : ℕ) → x ≡ b → b < 2 ^ 8 → o + w ≤ 8 → v < 2 ^ w → x / 2 ^ (8 - o) * 2 ^ (8 - o) % 2 ^ 64 + v * 2 ^ (8 - o - w) % 2 ^ 64 + x % (1 * 2 ^ (8 - o - w) % 2 ^ 64) ≡ b / 2 ^ (w + (8 - o - w)) * 2 ^ (w + (8 - o - w)) + v * 2 ^ (8 - o - w) + b % 2 ^ (8 - o - w)
number_found o w b x v e hb h hv =
    let s = 8 - o - w in
    let beyond : 8 - o ≡ w + s = omega arith in
    let small = number_small o w s b v (omega arith) hb hv in
    let front : x / 2 ^ (8 - o) * 2 ^ (8 - o) ≡ b / 2 ^ (w + s) * 2 ^ (w + s) = ap (λ y. y / 2 ^ (8 - o) * 2 ^ (8 - o)) e ∙ ap (λ k. b / 2 ^ k * 2 ^ k) beyond in
    let a : b / 2 ^ (w + s) * 2 ^ (w + s) < 2 ^ 64 = omega (arith, small) in
    let c : v * 2 ^ s < 2 ^ 64 = omega (arith, small) in
    let first : x / 2 ^ (8 - o) * 2 ^ (8 - o) % 2 ^ 64 ≡ b / 2 ^ (w + s) * 2 ^ (w + s) = ap (λ y. y % 2 ^ 64) front ∙ mod-eq_of_lt a in
    let second : v * 2 ^ s % 2 ^ 64 ≡ v * 2 ^ s = mod-eq_of_lt c in
    let third : x % (1 * 2 ^ s % 2 ^ 64) ≡ b % 2 ^ s = cc (one_shl s 64 (omega arith), e) in
    omega (arith, first, second, third)

pub number_fits : (o w b x v : ℕ) → x ≡ b → b < 2 ^ 8 → o + w ≤ 8 → v < 2 ^ w → x / 2 ^ (8 - o) * 2 ^ (8 - o) % 2 ^ 64 + v * 2 ^ (8 - o - w) % 2 ^ 64 + x % (1 * 2 ^ (8 - o - w) % 2 ^ 64) < 2 ^ 8
number_fits o w b x v e hb h hv = omega (arith, number_found o w b x v e hb h hv, number_small o w (8 - o - w) b v (omega arith) hb hv)

pub number_written : (o w b x v : ℕ) → x ≡ b → b < 2 ^ 8 → o + w ≤ 8 → v < 2 ^ w → num 8 (x / 2 ^ (8 - o) * 2 ^ (8 - o) % 2 ^ 64 + v * 2 ^ (8 - o - w) % 2 ^ 64 + x % (1 * 2 ^ (8 - o - w) % 2 ^ 64)) ≡ replaced o (num w v) (num 8 b)
number_written o w b x v e hb h hv =
    let s = 8 - o - w in
    let whole : o + (w + s) ≡ 8 = omega arith in
    let found : num 8 (x / 2 ^ (8 - o) * 2 ^ (8 - o) % 2 ^ 64 + v * 2 ^ s % 2 ^ 64 + x % (1 * 2 ^ s % 2 ^ 64)) ≡ num 8 (b / 2 ^ (w + s) * 2 ^ (w + s) + v * 2 ^ s + b % 2 ^ s) = ap (num 8) (number_found o w b x v e hb h hv) in
    found
    ∙ subst (λ k. num k (b / 2 ^ (w + s) * 2 ^ (w + s) + v * 2 ^ s + b % 2 ^ s) ≡ replaced o (num w v) (num k b)) whole (num_replaced o w s b v hv)
