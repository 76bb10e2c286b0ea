-- Bits put into a word after others.
use Rattle.std.proofs.Common.{◌≡◌, ℕ, ◌+◌, ◌-◌, ◌*◌, ◌/◌, ◌%◌, ◌^◌, ◌<◌, ◌≤◌, Bool, List, ◌++◌, length, take, sym, ap, subst, ◌∙◌, arith, append_assoc}
use Rattle.std.proofs.lemmas.List.{length-take-le, take-take}
use Rattle.std.proofs.lemmas.Nat.{field_of, shr_split, mul-mod_first, pow-add}
use Rattle.std.proofs.Math.Nat.{mul_assoc, add-mul, mul-mod_left, zero-mod, zero-div}
use Rattle.std.proofs.Math.Seq.{take-add, take-append-add}
use Rattle.etcs_bits.specs.Bits.{num, value, part}
use Rattle.etcs_bits.proofs.Lists.{length-part}
use Rattle.etcs_bits.proofs.Numbers.{length-num, num-value}
use Rattle.etcs_bits.proofs.Words.{word_middle}
use Rattle.etcs_bits.proofs.WordWrites.{word_low}
use Rattle.etcs_vars.proofs.Prefixes.{take-num, quotient_below}
use Rattle.etcs_vars.proofs.Stepping.{parts_fit, next_number}
use Rattle.etcs_vars.proofs.LowestBits.{low_found, num-low}

-- ---- Numbers that end in zeros.

whole : (x k : ℕ) → x % 2 ^ k ≡ 0 → x ≡ x / 2 ^ k * 2 ^ k
whole x k e = omega (arith, shr_split x k, e)

zeros : (a k : ℕ) → a * 2 ^ k % 2 ^ k ≡ 0
zeros a k = mul-mod_left a (2 ^ k)

-- fewer zeros
zeros_low : (x w r : ℕ) → x % 2 ^ (w + r) ≡ 0 → x % 2 ^ r ≡ 0
zeros_low x w r e = sym (word_low x w r) ∙ ap (λ (k : ℕ). k % 2 ^ r) e ∙ zero-mod (2 ^ r)

-- moved down
zeros_down : (x r c : ℕ) → x % 2 ^ (r + c) ≡ 0 → x / 2 ^ c % 2 ^ r ≡ 0
zeros_down x r c e = sym (field_of x r c) ∙ ap (λ (k : ℕ). k / 2 ^ c) e ∙ zero-div (2 ^ c)

-- moved up
zeros_up : (x m s : ℕ) → x % 2 ^ m ≡ 0 → x * 2 ^ s % 2 ^ (m + s) ≡ 0
zeros_up x m s e =
    let a = x / 2 ^ m in
    let same : x * 2 ^ s ≡ a * 2 ^ (m + s) = ap (λ (k : ℕ). k * 2 ^ s) (whole x m e) ∙ mul_assoc a (2 ^ m) (2 ^ s) ∙ ap (λ (k : ℕ). a * k) (sym (pow-add 2 m s)) in
    ap (λ (k : ℕ). k % 2 ^ (m + s)) same ∙ zeros a (m + s)

zeros_both : (x y r : ℕ) → x % 2 ^ r ≡ 0 → y % 2 ^ r ≡ 0 → (x + y) % 2 ^ r ≡ 0
zeros_both x y r e f =
    let a = x / 2 ^ r in
    let b = y / 2 ^ r in
    let same : x + y ≡ (a + b) * 2 ^ r = ap (λ (k : ℕ). k + y) (whole x r e) ∙ ap (λ (k : ℕ). a * 2 ^ r + k) (whole y r f) ∙ sym (add-mul a b (2 ^ r)) in
    ap (λ (k : ℕ). k % 2 ^ r) same ∙ zeros (a + b) r

-- ---- The number on top of a word, and the word with what it holds.

abbrev pub top : ℕ → ℕ → ℕ
top w n = n * 2 ^ (64 - w) % 2 ^ 64

abbrev pub joined : ℕ → ℕ → ℕ → ℕ
joined h c t = h + t / 2 ^ c

zeros_top : (w n : ℕ) → w ≤ 64 → top w n % 2 ^ (64 - w) ≡ 0
zeros_top w n most =
    let all : 64 ≡ w + (64 - w) = omega (arith, most) in
    ap (λ (k : ℕ). n * 2 ^ (64 - w) % 2 ^ k % 2 ^ (64 - w)) all ∙ word_low (n * 2 ^ (64 - w)) w (64 - w) ∙ zeros n (64 - w)

top_below : (w n : ℕ) → top w n < 2 ^ 64
top_below w n = omega arith

pub top_bits : (w n : ℕ) → w ≤ 64 → take w (num 64 (top w n)) ≡ num w n
top_bits w n most =
    let all : 64 ≡ w + (64 - w) = omega (arith, most) in
    ap (λ (k : ℕ). take w (num k (top w n))) all
    ∙ take-num w (64 - w) (top w n)
    ∙ ap (num w) (low_found w n most)
    ∙ num-low w n

-- the bits that it holds, and those of the number
joined_bits : (h c t : ℕ) → c ≤ 64 → h < 2 ^ 64 → t < 2 ^ 64 → h % 2 ^ (64 - c) ≡ 0 → (num 64 (joined h c t) ≡ take c (num 64 h) ++ take (64 - c) (num 64 t)) × (joined h c t < 2 ^ 64)
joined_bits h c t few hb tb e =
    let s = 64 - c in
    let a = h / 2 ^ s in
    let q = t / 2 ^ c in
    let front : 64 ≡ c + s = omega (arith, few) in
    let back : 64 ≡ s + c = omega (arith, few) in
    let high : a < 2 ^ c = quotient_below h c s (subst (λ (k : ℕ). h < 2 ^ k) front hb) in
    let low : q < 2 ^ s = quotient_below t s c (subst (λ (k : ℕ). t < 2 ^ k) back tb) in
    let same : joined h c t ≡ a * 2 ^ s + q = ap (λ (k : ℕ). k + q) (whole h s e) in
    let one : take c (num 64 h) ≡ num c a = ap (λ (k : ℕ). take c (num k h)) front ∙ take-num c s h in
    let two : take s (num 64 t) ≡ num s q = ap (λ (k : ℕ). take s (num k t)) back ∙ take-num s c t in
    let bits_are : num 64 (joined h c t) ≡ num c a ++ num s q = ap (num 64) same ∙ ap (λ (k : ℕ). num k (a * 2 ^ s + q)) front ∙ next_number c s a q low in
    let fits : a * 2 ^ s + q < 2 ^ (c + s) = parts_fit c s a q high low in (
      bits_are ∙ sym (ap (λ (b : List Bool). b ++ take s (num 64 t)) one ∙ ap (λ (b : List Bool). num c a ++ b) two),
      subst (λ (k : ℕ). joined h c t < 2 ^ k) (sym front) (subst (λ (x : ℕ). x < 2 ^ (c + s)) (sym same) fits),
    )

-- where all of it has room
pub within_bits : (h c w n : ℕ) → c + w < 64 → w ≤ 64 → h < 2 ^ 64 → h % 2 ^ (64 - c) ≡ 0 → take (c + w) (num 64 (joined h c (top w n))) ≡ take c (num 64 h) ++ num w n
within_bits h c w n room most hb e =
    let t = top w n in
    let front = take c (num 64 h) in
    let size : length front ≡ c = length-take-le c (num 64 h) (omega (arith, length-num 64 h, room)) in
    let place : c + w ≡ length front + w = omega (arith, size) in
    ap (take (c + w)) (joined_bits h c t (omega (arith, room)) hb (top_below w n) e).0
    ∙ ap (λ (k : ℕ). take k (front ++ take (64 - c) (num 64 t))) place
    ∙ take-append-add front (take (64 - c) (num 64 t)) w
    ∙ ap (λ (b : List Bool). front ++ b) (take-take w (64 - c) (num 64 t) (omega (arith, room)) ∙ top_bits w n most)

pub within_zeros : (h c w n : ℕ) → c + w < 64 → w ≤ 64 → h % 2 ^ (64 - c) ≡ 0 → joined h c (top w n) % 2 ^ (64 - (c + w)) ≡ 0
within_zeros h c w n room most e =
    let r = 64 - (c + w) in
    let one : 64 - c ≡ w + r = omega (arith, room) in
    let two : 64 - w ≡ r + c = omega (arith, room) in
    zeros_both h (top w n / 2 ^ c) r
    (zeros_low h w r (subst (λ (k : ℕ). h % 2 ^ k ≡ 0) one e))
    (zeros_down (top w n) r c (subst (λ (k : ℕ). top w n % 2 ^ k ≡ 0) two (zeros_top w n most)))

number_of_part : (s k : ℕ) (b : List Bool) → s + k ≤ length b → num k (value (part s k b)) ≡ part s k b
number_of_part s k b h = ap (λ (x : ℕ). num x (value (part s k b))) (sym (length-part s k b h)) ∙ num-value (part s k b)

-- what is left of the number after a whole word, as the code finds it
abbrev pub left_over : ℕ → ℕ → ℕ
left_over c t = t * 2 % 2 ^ 64 * 2 ^ (63 - c) % 2 ^ 64

left_moved : (c t : ℕ) → c < 64 → left_over c t ≡ t * 2 ^ (64 - c) % 2 ^ 64
left_moved c t few =
    let s = 63 - c in
    let all : 64 - c ≡ 1 + s = omega (arith, few) in
    mul-mod_first (t * 2) (2 ^ s) (2 ^ 64) ∙ ap (λ (k : ℕ). k % 2 ^ 64) (mul_assoc t 2 (2 ^ s) ∙ ap (λ (k : ℕ). t * k) (sym (pow-add 2 1 s)) ∙ ap (λ (k : ℕ). t * 2 ^ k) (sym all))

pub over_bits : (h c w n : ℕ) → c < 64 → w ≤ 64 → 64 ≤ c + w → h < 2 ^ 64 → h % 2 ^ (64 - c) ≡ 0 → num 64 (joined h c (top w n)) ++ take (c + w - 64) (num 64 (left_over c (top w n))) ≡ take c (num 64 h) ++ num w n
over_bits h c w n few most full hb e =
    let t = top w n in
    let s = 64 - c in
    let k = c + w - 64 in
    let l = left_over c t in
    let all : 64 ≡ k + (64 - k) = omega (arith, few, most) in
    let wide : s + k ≡ w = omega (arith, few, full) in
    let inside : s + k ≤ length (num 64 t) = omega (arith, length-num 64 t, wide, most) in
    let middle : l / 2 ^ (64 - k) ≡ value (part s k (num 64 t)) = ap (λ (x : ℕ). x / 2 ^ (64 - k)) (left_moved c t few) ∙ word_middle t s k (omega (arith, wide, most)) in
    let rest : take k (num 64 l) ≡ part s k (num 64 t) =
    ap (λ (x : ℕ). take k (num x l)) all ∙ take-num k (64 - k) l ∙ ap (num k) middle ∙ number_of_part s k (num 64 t) inside in
    let both : take s (num 64 t) ++ take k (num 64 l) ≡ num w n =
    ap (λ (b : List Bool). take s (num 64 t) ++ b) rest ∙ sym (take-add s k (num 64 t)) ∙ ap (λ (x : ℕ). take x (num 64 t)) wide ∙ top_bits w n most in
    ap (λ (b : List Bool). b ++ take k (num 64 l)) (joined_bits h c t (omega (arith, few)) hb (top_below w n) e).0
    ∙ append_assoc (take c (num 64 h)) (take s (num 64 t)) (take k (num 64 l))
    ∙ ap (λ (b : List Bool). take c (num 64 h) ++ b) both

pub over_zeros : (c w n : ℕ) → c < 64 → w ≤ 64 → 64 ≤ c + w → left_over c (top w n) % 2 ^ (64 - (c + w - 64)) ≡ 0
over_zeros c w n few most full =
    let t = top w n in
    let k = c + w - 64 in
    let all : 64 ≡ k + (64 - k) = omega (arith, few, most) in
    let two : 64 - w + (64 - c) ≡ 64 - k = omega (arith, few, most, full) in
    ap (λ (x : ℕ). x % 2 ^ (64 - k)) (left_moved c t few ∙ ap (λ (x : ℕ). t * 2 ^ (64 - c) % 2 ^ x) all)
    ∙ word_low (t * 2 ^ (64 - c)) k (64 - k)
    ∙ subst (λ (x : ℕ). t * 2 ^ (64 - c) % 2 ^ x ≡ 0) two (zeros_up t (64 - w) (64 - c) (zeros_top w n most))

pub joined_fits : (h c w n : ℕ) → c < 64 → h < 2 ^ 64 → h % 2 ^ (64 - c) ≡ 0 → joined h c (top w n) < 2 ^ 64
joined_fits h c w n few hb e = (joined_bits h c (top w n) (omega (arith, few)) hb (top_below w n) e).1

pub length-word : (h c : ℕ) → c < 64 → length (take c (num 64 h)) ≡ c
length-word h c few = length-take-le c (num 64 h) (omega (arith, length-num 64 h, few))
