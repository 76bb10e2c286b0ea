use Rattle.std.proofs.Common.{refl, arith}
use Rattle.etcs_json_trees.proofs.NumberTexts.{more_bit, no_bits, small_after}
use Rattle.etcs_json_trees.proofs.written.digits.few_bits.Goals as goal

pub loop-byte-init : goal.loop-byte-init
loop-byte-init c = (omega arith, omega arith, no_bits c.args.text.now)

pub loop-byte-preserved : goal.loop-byte-preserved
loop-byte-preserved c =
    let (few, small, text) = c.loop-byte.invariant in
    let bit = c.in-Some-bit_of.ensures in
    let count = c.loop-byte.count in
    let n = c.loop-byte.number in
    (omega arith, small_after count n _ _ small bit.0 refl, more_bit _ _ _ count n _ _ _ text c.in-Some.ensures.cases.0 bit.0 bit.1 refl)
