-- Numbers whose bits are all ones, or all zeros.
use Rattle.std.proofs.Common.{◌≡◌, ℕ, zero, suc, ◌+◌, ◌-◌, ◌/◌, ◌%◌, ◌^◌, ◌<◌, ◌≤◌, Bool, true, false, List, ◌∷◌, ◌++◌, take, refl, sym, ap, ◌∙◌, arith}
use Rattle.std.specs.Prelude.{replicate}
use Rattle.std.proofs.lemmas.List.{take-replicate, replicate-append-replicate}
use Rattle.etcs_bits.specs.Bits.{num}
use Rattle.etcs_vars.proofs.Prefixes.{take-num, quotient_below}

all_ones : num 64 18446744073709551615 ≡ replicate 64 true
unfolding num
all_ones = refl

-- the first bits of 64 ones
pub num-ones : (width : ℕ) → width ≤ 64 → num width (18446744073709551615 / 2 ^ (64 - width)) ≡ replicate width true
num-ones width le =
    let whole : width + (64 - width) ≡ 64 = omega arith in
    sym (take-num width (64 - width) 18446744073709551615) ∙ ap (λ (k : ℕ). take width (num k 18446744073709551615)) whole ∙ ap (take width) all_ones ∙ take-replicate width 64 true le

pub ones_fit : (width : ℕ) → width ≤ 64 → 18446744073709551615 / 2 ^ (64 - width) < 2 ^ width
ones_fit width le =
    let whole : width + (64 - width) ≡ 64 = omega arith in
    let below : 18446744073709551615 < 2 ^ (width + (64 - width)) = rw whole (omega arith) in
    quotient_below 18446744073709551615 width (64 - width) below

-- ones after ones
pub ones_more : (len left width : ℕ) (bs : List Bool) → width ≤ 64 → width ≤ left → left ≤ len → bs ≡ replicate (len - left) true → bs ++ num width (18446744073709551615 / 2 ^ (64 - width)) ≡ replicate (len - (left - width)) true
ones_more len left width bs small le room e =
    let count : (len - left) + width ≡ len - (left - width) = omega arith in
    ap (λ (s : List Bool). s ++ num width (18446744073709551615 / 2 ^ (64 - width))) e
    ∙ ap (λ (s : List Bool). replicate (len - left) true ++ s) (num-ones width small)
    ∙ replicate-append-replicate (len - left) width true
    ∙ ap (λ (k : ℕ). replicate k true) count

-- zeros
pub num-zeros : (n : ℕ) → num n 0 ≡ replicate n false
unfolding num
num-zeros zero = refl
num-zeros (suc n) = let none : 0 / 2 ^ n % 2 ≡ 0 = omega arith in rw none (ap (λ (t : List Bool). false ∷ t) (num-zeros n))
