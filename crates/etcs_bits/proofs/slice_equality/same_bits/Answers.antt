use Rattle.std.proofs.Common.{rules, ◌≡◌, true, arith}
use Rattle.etcs_bits.proofs.SliceEquality.{same_more}
use Rattle.etcs_bits.proofs.slice_equality.same_bits.Goals as goal

pub loop-done-preserved : goal.loop-done-preserved
loop-done-preserved c =
    let same : c.same_part.result ≡ true = search rules in
    (omega arith, same_more c.args.left.now c.args.right.now c.loop-done.done c.min-count.result c.loop-done.invariant.1 (c.same_part.ensures.0 same))
