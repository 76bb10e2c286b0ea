-- The lowest bits of a number.
use Rattle.std.proofs.Common.{◌≡◌, ℕ, ◌-◌, ◌*◌, ◌/◌, ◌%◌, ◌^◌, ◌≤◌, sym, ap, ◌∙◌, arith}
use Rattle.std.proofs.Math.Nat.{mod-mod}
use Rattle.etcs_bits.specs.Bits.{num}
use Rattle.etcs_bits.proofs.Numbers.{length-num, value_same, value-num_low}
use Rattle.etcs_bits.proofs.WordWrites.{word_lower}

pub low_found : (w n : ℕ) → w ≤ 64 → n * 2 ^ (64 - w) % 2 ^ 64 / 2 ^ (64 - w) ≡ n % 2 ^ w
low_found w n h = word_lower n (64 - w) (omega arith) ∙ ap (λ (k : ℕ). n % 2 ^ k) (let e : 64 - (64 - w) ≡ w = omega arith in e)

pub num-low : (w n : ℕ) → num w (n % 2 ^ w) ≡ num w n
num-low w n =
    value_same (num w (n % 2 ^ w)) (num w n) (length-num w (n % 2 ^ w) ∙ sym (length-num w n))
    (value-num_low w (n % 2 ^ w) ∙ mod-mod n (2 ^ w) ∙ sym (value-num_low w n))
