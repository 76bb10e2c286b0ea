use Rattle.std.proofs.Common.{◌≡◌, ℕ, ◌+◌, ◌-◌, ◌*◌, length, ap, arith}
use Rattle.etcs_json_trees.proofs.DigitBits.{more_digit_bit}
use Rattle.etcs_json_trees.proofs.written.digits.few_number.Goals as goal

pub loop-digit-preserved : goal.loop-digit-preserved
loop-digit-preserved c =
    let digits = c.args.digits.now in
    let left = c.in_ok-number.left.now in
    let bit = c.in_ok-bit_of.ensures in
    let same : 2 * c.loop-digit.number + c.from.result ≡ 2 * c.loop-digit.number + c.in_ok-bit_of.field-0 = ap (λ (x : ℕ). 2 * c.loop-digit.number + x) c.from.ensures in
    more_digit_bit digits left (length digits - length left) c.loop-digit.digit-index c.loop-digit.number _ c.in_ok-bit_of.field-0 (omega arith) c.loop-digit.invariant.1 c.loop-digit.invariant.0 bit.0 bit.1 same
