-- Bits as digits.
use Rattle.std.proofs.Common.{◌≡◌, ℕ, zero, suc, ◌+◌, ◌-◌, ◌*◌, ◌/◌, ◌%◌, ◌^◌, ◌<◌, ◌≤◌, Bool, List, [], ◌++◌, length, take, map, Some, None, cond, sym, ap, ◌∙◌, arith, append_assoc}
use Rattle.std.specs.Prelude.{bit_and}
use Rattle.std.proofs.lemmas.Nat.{and_mask, pow-add}
use Rattle.std.proofs.Math.Nat.{div-div-eq-div-mul}
use Rattle.std.proofs.lemmas.Bool.{le-leb}
use Rattle.std.proofs.Math.Seq.{take-add, take-append-add}
use Rattle.std.proofs.lemmas.List.{length-take-le, take-map, take-take, take_at, map-append}
use Rattle.etcs_bits.specs.Bits.{num, value, part, number_at}
use Rattle.etcs_bits.proofs.ByteBits.{num_low}
use Rattle.etcs_bits.proofs.Numbers.{length-num, num-add, num-value}
use Rattle.etcs_bits.proofs.Lists.{length-part}
use Rattle.etcs_packet_text.specs.Show.{bit_digit}

-- ---- Bits of a number.

low_byte : (n : ℕ) → num 8 (bit_and n 255) ≡ num 8 n
low_byte n = num_low 8 (bit_and n 255) n (ap (λ (x : ℕ). x % 256) (and_mask n 8) ∙ omega arith)

-- eight bits more
pub byte_more : (n width left : ℕ) → 8 ≤ left → left ≤ width → num (width - (left - 8)) (n / 2 ^ (left - 8)) ≡ num (width - left) (n / 2 ^ left) ++ num 8 (bit_and (n / 2 ^ (left - 8)) 255)
byte_more n width left some few =
    let m = n / 2 ^ (left - 8) in
    let all : width - (left - 8) ≡ width - left + 8 = omega arith in
    let power : 2 ^ (left - 8) * 2 ^ 8 ≡ 2 ^ left = sym (pow-add 2 (left - 8) 8) ∙ ap (λ (k : ℕ). 2 ^ k) (omega arith) in
    ap (λ (k : ℕ). num k m) all
    ∙ num-add (width - left) 8 m
    ∙ ap (λ (k : ℕ). num (width - left) k ++ num 8 m) (div-div-eq-div-mul n (2 ^ (left - 8)) (2 ^ 8) ∙ ap (λ (k : ℕ). n / k) power)
    ∙ ap (λ (z : List Bool). num (width - left) (n / 2 ^ left) ++ z) (sym (low_byte m))

pub bits_none : (n width : ℕ) → num (width - width) (n / 2 ^ width) ≡ []
unfolding num
bits_none n width = let none : width - width ≡ 0 = omega arith in ap (λ (k : ℕ). num k (n / 2 ^ width)) none

-- the last bits
pub bits_last : (n width left : ℕ) → left ≤ width → num (width - left) (n / 2 ^ left) ++ num left n ≡ num width n
bits_last n width left few = sym (num-add (width - left) left n) ∙ ap (λ (k : ℕ). num k n) (omega arith)

few_value : (w n : ℕ) → w < 8 → n * 2 ^ (8 - w) % 2 ^ 64 % 256 / 2 ^ (8 - w) % 2 ^ w ≡ n % 2 ^ w
few_value zero n h = omega arith
few_value (suc zero) n h = omega arith
few_value (suc (suc zero)) n h = omega arith
few_value (suc (suc (suc zero))) n h = omega arith
few_value (suc (suc (suc (suc zero)))) n h = omega arith
few_value (suc (suc (suc (suc (suc zero))))) n h = omega arith
few_value (suc (suc (suc (suc (suc (suc zero)))))) n h = omega arith
few_value (suc (suc (suc (suc (suc (suc (suc zero))))))) n h = omega arith
few_value (suc (suc (suc (suc (suc (suc (suc (suc w)))))))) n h = absurd (omega arith)

-- the first bits of a byte that begins with the lowest of a number
few_bits : (w n : ℕ) → w < 8 → take w (num 8 (bit_and (n * 2 ^ (8 - w) % 2 ^ 64) 255)) ≡ num w n
few_bits w n h =
    let m = n * 2 ^ (8 - w) % 2 ^ 64 in
    let x = m % 256 in
    let all : 8 ≡ w + (8 - w) = omega arith in
    ap (λ (k : ℕ). take w (num 8 k)) (and_mask m 8)
    ∙ ap (λ (k : ℕ). take w (num k x)) all
    ∙ ap (take w) (num-add w (8 - w) x)
    ∙ take_at (num w (x / 2 ^ (8 - w))) (num (8 - w) x) w (length-num w (x / 2 ^ (8 - w)))
    ∙ num_low w (x / 2 ^ (8 - w)) n (few_value w n h)

pub few_put : (at w n end : ℕ) (old new : List ℕ) → w < 8 → at ≤ length old → end ≡ at + 8 → take end new ≡ take at old ++ map bit_digit (num 8 (bit_and (n * 2 ^ (8 - w) % 2 ^ 64) 255)) → take (at + w) new ≡ take at old ++ map bit_digit (num w n)
few_put at w n end old new few inside e put =
    let byte = num 8 (bit_and (n * 2 ^ (8 - w) % 2 ^ 64) 255) in
    sym (take-take (at + w) end new (omega arith))
    ∙ ap (take (at + w)) put
    ∙ ap (λ (k : ℕ). take (k + w) (take at old ++ map bit_digit byte)) (sym (length-take-le at old inside))
    ∙ take-append-add (take at old) (map bit_digit byte) w
    ∙ ap (λ (z : List ℕ). take at old ++ z) (take-map bit_digit w byte ∙ ap (λ (z : List Bool). map bit_digit z) (few_bits w n few))

-- texts of bits one after another
pub bits_on : (old one two : List ℕ) (a b c : List Bool) → one ≡ old ++ map bit_digit a → two ≡ one ++ map bit_digit b → a ++ b ≡ c → two ≡ old ++ map bit_digit c
bits_on old one two a b c p q e =
    q
    ∙ ap (λ (z : List ℕ). z ++ map bit_digit b) p
    ∙ append_assoc old (map bit_digit a) (map bit_digit b)
    ∙ ap (λ (z : List ℕ). old ++ z) (sym (map-append bit_digit a b) ∙ ap (λ (z : List Bool). map bit_digit z) e)

-- ---- A part of bits.

some_same : (m n : ℕ) → Some m ≡ Some n → m ≡ n
some_same m n e = cc

-- the bits of a part, from the number that they spell
pub part_bits : (bs : List Bool) (at w n : ℕ) → at + w ≤ length bs → Some n ≡ number_at at w bs → num w n ≡ part at w bs
part_bits bs at w n h e =
    let long = length-part at w bs h in
    let number : Some (value (part at w bs)) ≡ number_at at w bs = sym (ap (λ b. cond b (Some (value (part at w bs))) None) (le-leb (at + w) (length bs) h)) in
    let same : n ≡ value (part at w bs) = some_same _ _ (e ∙ sym number) in
    ap (num w) same ∙ ap (λ k. num k (value (part at w bs))) (sym long) ∙ num-value (part at w bs)

-- one more part
pub part_more : (bs : List Bool) (at w : ℕ) (front out done : List ℕ) → done ≡ front ++ map bit_digit (take at bs) → out ≡ done ++ map bit_digit (part at w bs) → out ≡ front ++ map bit_digit (take (at + w) bs)
part_more bs at w front out done e h =
    h
    ∙ ap (λ (z : List ℕ). z ++ map bit_digit (part at w bs)) e
    ∙ append_assoc front (map bit_digit (take at bs)) (map bit_digit (part at w bs))
    ∙ ap (λ (z : List ℕ). front ++ z) (sym (map-append bit_digit (take at bs) (part at w bs)) ∙ ap (λ (z : List Bool). map bit_digit z) (sym (take-add at w bs)))
