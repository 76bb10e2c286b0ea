-- Digits 0 and 1 that are the bits of numbers.
use Rattle.std.proofs.Common.{◌≡◌, ℕ, ◌+◌, ◌-◌, ◌*◌, ◌/◌, ◌%◌, ◌^◌, ◌<◌, ◌≤◌, Bool, List, ◌++◌, length, map, get_or, take, drop, sym, ap, ◌∙◌, arith, append_assoc}
use Rattle.std.proofs.Math.Nat.{pow-le-pow_right}
use Rattle.std.proofs.lemmas.Nat.{pow-add, pow_pos}
use Rattle.std.proofs.lemmas.List.{drop_more, map-append, take-append-drop}
use Rattle.etcs_bits.specs.Bits.{num}
use Rattle.etcs_bits.proofs.Numbers.{length-num, num-add, value_same, value-num_low}
use Rattle.etcs_packet_text.specs.Show.{bit_digit}
use Rattle.etcs_json_trees.proofs.NumberTexts.{more_bit, small_after}

-- ---- Eight digits more.

low_same : (w m n : ℕ) → m % 2 ^ w ≡ n % 2 ^ w → num w m ≡ num w n
low_same w m n e = value_same (num w m) (num w n) (length-num w m ∙ sym (length-num w n)) (value-num_low w m ∙ e ∙ sym (value-num_low w n))

eight_after : (k n m b : ℕ) → b < 256 → m ≡ n * 256 + b → num (k + 8) m ≡ num k n ++ num 8 b
eight_after k n m b small e =
    let front : m / 2 ^ 8 ≡ n = omega (arith, small, e) in
    let low : m % 2 ^ 8 ≡ b % 2 ^ 8 = omega (arith, small, e) in
    num-add k 8 m
    ∙ ap (λ (x : ℕ). num k x ++ num 8 m) front
    ∙ ap (λ (z : List Bool). num k n ++ z) (low_same 8 m b low)

-- how many digits are before those that are left
count_more : (all left more : ℕ) → more + 8 ≡ left → left ≤ all → all - more ≡ all - left + 8
count_more all left more e h = omega (arith, e, h)

pub more_eight : (digits left eight more : List ℕ) (n m b : ℕ) → length more + 8 ≡ length left → length left ≤ length digits → digits ≡ map bit_digit (num (length digits - length left) n) ++ left → eight ≡ take 8 left → more ≡ drop 8 left → b < 256 → eight ≡ map bit_digit (num 8 b) → m ≡ n * 256 + b → digits ≡ map bit_digit (num (length digits - length more) m) ++ more
more_eight digits left eight more n m b fewer inside h first others small is e =
    let k = length digits - length left in
    let old = map bit_digit (num k n) in
    let split : left ≡ map bit_digit (num 8 b) ++ more = sym (take-append-drop 8 left) ∙ ap (λ (z : List ℕ). z ++ drop 8 left) (sym first ∙ is) ∙ ap (λ (z : List ℕ). map bit_digit (num 8 b) ++ z) (sym others) in
    let bits : num (length digits - length more) m ≡ num k n ++ num 8 b = ap (λ (j : ℕ). num j m) (count_more (length digits) (length left) (length more) fewer inside) ∙ eight_after k n m b small e in
    h
    ∙ ap (λ (z : List ℕ). old ++ z) split
    ∙ sym (append_assoc old (map bit_digit (num 8 b)) more)
    ∙ ap (λ (z : List ℕ). z ++ more) (sym (map-append bit_digit (num k n) (num 8 b)) ∙ ap (map bit_digit) (sym bits))

pub small_more : (all left more n m b : ℕ) → more + 8 ≡ left → left ≤ all → n < 2 ^ (all - left) → b < 256 → m ≡ n * 256 + b → m < 2 ^ (all - more)
small_more all left more n m b fewer inside small byte e =
    omega (arith, ap (λ (k : ℕ). 2 ^ k) (count_more all left more fewer inside), pow-add 2 (all - left) 8, small, byte, e)

pub room_for_eight : (all left n : ℕ) → all ≤ 32 → 8 ≤ left → left ≤ all → n < 2 ^ (all - left) → n < 16777216
room_for_eight all left n few some inside small =
    let p = pow-le-pow_right {n = 2} (omega arith) {i = all - left} {j = 24} (omega (arith, few, some, inside)) in
    omega (arith, p, small)

none_before : (digits : List ℕ) → length digits - length digits ≡ 0
none_before digits = omega arith

pub no_eights : (digits : List ℕ) → digits ≡ map bit_digit (num (length digits - length digits) 0) ++ digits
unfolding num
no_eights digits = ap (λ (k : ℕ). map bit_digit (num k 0) ++ digits) (sym (none_before digits))

pub zero_small : (digits : List ℕ) → 0 < 2 ^ (length digits - length digits)
zero_small digits = pow_pos (length digits - length digits)

-- ---- A digit more.

pub more_digit_bit : (digits left : List ℕ) (k i n m b : ℕ) → i < length left → digits ≡ map bit_digit (num (k + i) n) ++ drop i left → n < 2 ^ (k + i) → b < 2 → get_or left i 0 ≡ 48 + b → m ≡ 2 * n + b → (m < 2 ^ (k + (i + 1))) × (digits ≡ map bit_digit (num (k + (i + 1)) m) ++ drop (i + 1) left)
more_digit_bit digits left k i n m b inside h small bit byte e =
    let one : k + i + 1 ≡ k + (i + 1) = omega arith in
    let is : m ≡ n * 2 + b = omega (arith, e) in
    let less = small_after (k + i) n m b small bit is in (
      omega (arith, less, ap (λ (j : ℕ). 2 ^ j) one),
      more_bit digits (drop i left) (drop (i + 1) left) (k + i) n m (get_or left i 0) b h (drop_more left i 0 inside) bit byte is ∙ ap (λ (j : ℕ). map bit_digit (num j m) ++ drop (i + 1) left) one,
    )

-- ---- Bits after bits.

-- a block more
pub block_more : (digits left block more : List ℕ) (count : ℕ) (old mid new : List Bool) → ((b : List Bool) × (digits ≡ map bit_digit b ++ left) × (mid ≡ old ++ b)) → ((b : List Bool) × (block ≡ map bit_digit b) × (new ≡ mid ++ b)) → block ≡ take count left → more ≡ drop count left
    → (b : List Bool) × (digits ≡ map bit_digit b ++ more) × (new ≡ old ++ b)
block_more digits left block more count old mid new (a, h, e) (b, is, f) first others =
    let split : left ≡ map bit_digit b ++ more = sym (take-append-drop count left) ∙ ap (λ (z : List ℕ). z ++ drop count left) (sym first ∙ is) ∙ ap (λ (z : List ℕ). map bit_digit b ++ z) (sym others) in (
      a ++ b,
      h
          ∙ ap (λ (z : List ℕ). map bit_digit a ++ z) split
          ∙ sym (append_assoc (map bit_digit a) (map bit_digit b) more)
          ∙ ap (λ (z : List ℕ). z ++ more) (sym (map-append bit_digit a b)),
      f ∙ ap (λ (z : List Bool). z ++ b) e ∙ append_assoc old a b,
    )
