-- The bits of a word and of a byte, each as a variable of one bit.
use Rattle.std.proofs.Common.{◌≡◌, ℕ, zero, suc, ◌+◌, ◌-◌, ◌*◌, ◌/◌, ◌%◌, ◌^◌, ◌<◌, ◌≤◌, ◌==◌, Bool, false, List, [], ◌∷◌, ◌++◌, length, take, drop, replicate, if◌then◌else◌, refl, sym, ap, ◌∙◌, arith}
use Rattle.std.proofs.lemmas.List.{length-drop, take-append-le, take-take}
use Rattle.etcs_bits.specs.Bits.{num, value, part}
use Rattle.etcs_bits.proofs.Lists.{length-part}
use Rattle.etcs_bits.proofs.Numbers.{length-num, num-value}
use Rattle.etcs_bits.proofs.Steps.{value-part_below}
use Rattle.etcs_bits.proofs.Words.{word_middle}
use Rattle.etcs_vars.specs.declared.var.Var.{Var}
use Rattle.etcs_vars.specs.Reading.{Reading, kept}

two : (k : ℕ) → k < 2 → k ≡ (if k == 1 then 1 else 0)
two zero h = refl
two (suc zero) h = refl
two (suc (suc k)) h = absurd (omega (arith, h))

next : (v : Var) (w n : ℕ) → kept v (num (suc w) n) ≡ (v, n / 2 ^ w % 2) ∷ kept v (num w n)
unfolding num
next v w n = ap (λ (k : ℕ). (v, k) ∷ kept v (num w n)) (sym (two (n / 2 ^ w % 2) (omega arith)))

last : (v : Var) (n : ℕ) → kept v (num 1 n) ≡ (v, n % 2) ∷ kept v (num 0 n)
last v n = next v 0 n ∙ ap (λ (k : ℕ). (v, k) ∷ kept v (num 0 n)) (omega arith)

more : (v : Var) (k : ℕ) (p q : Reading) → p ≡ q → ◌≡◌ {A = Reading} ((v, k) ∷ p) ((v, k) ∷ q)
more v k p q e = ap (λ (r : Reading). (v, k) ∷ r) e

none : (v : Var) (n : ℕ) → kept v (num 0 n) ≡ []
unfolding num
none v n = refl

pub byte_bits : (v : Var) (n : ℕ) → kept v (num 8 n) ≡ (v, n / 2 ^ 7 % 2) ∷ (v, n / 2 ^ 6 % 2) ∷ (v, n / 2 ^ 5 % 2) ∷ (v, n / 2 ^ 4 % 2) ∷ (v, n / 2 ^ 3 % 2) ∷ (v, n / 2 ^ 2 % 2) ∷ (v, n / 2 ^ 1 % 2) ∷ (v, n % 2) ∷ []
byte_bits v n =
    next v 7 n
    ∙ more v _ _ _ (next v 6 n
    ∙ more v _ _ _ (next v 5 n
    ∙ more v _ _ _ (next v 4 n
    ∙ more v _ _ _ (next v 3 n
    ∙ more v _ _ _ (next v 2 n
    ∙ more v _ _ _ (next v 1 n
    ∙ more v _ _ _ (last v n
    ∙ more v _ _ _ (none v n))))))))

-- one bit
pub one_bit : (v : Var) (n : ℕ) → n < 2 → kept v (num 1 n) ≡ (v, n) ∷ []
one_bit v n h = last v n ∙ more v _ _ _ (none v n) ∙ ap (λ (k : ℕ). (v, k) ∷ []) (omega (arith, h))

-- bits of a word
pub word_bits : (word place count : ℕ) → place + count ≤ 64 → num count (word * 2 ^ place % 2 ^ 64 / 2 ^ (64 - count)) ≡ part place count (num 64 word)
word_bits word place count h =
    let p = part place count (num 64 word) in
    let size : length p ≡ count = length-part place count (num 64 word) (omega (arith, h, length-num 64 word)) in
    ap (num count) (word_middle word place count h) ∙ ap (λ (k : ℕ). num k (value p)) (sym size) ∙ num-value p

pub bit_below : (word place : ℕ) → place + 1 ≤ 64 → word * 2 ^ place % 2 ^ 64 / 2 ^ 63 < 2
bit_below word place h = omega (arith, word_middle word place 1 h, value-part_below place 1 (num 64 word) (omega (arith, h, length-num 64 word)))

-- the first bits of a word that has those of a list from one of them on
pub word_part : (bs : List Bool) (from count word : ℕ) → from + count ≤ length bs → count ≤ 64 → num 64 word ≡ take 64 (drop from bs ++ replicate 64 false) → take count (num 64 word) ≡ part from count bs
word_part bs from count word inside small is =
    ap (take count) is
    ∙ take-take count 64 (drop from bs ++ replicate 64 false) small
    ∙ take-append-le count (drop from bs) (replicate 64 false) (omega (arith, length-drop from bs, inside))
