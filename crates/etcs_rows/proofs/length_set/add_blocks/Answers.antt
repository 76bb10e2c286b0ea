use Rattle.std.proofs.Common.{arith, ◌+◌, ◌*◌, ◌/◌, ◌-◌}
use Rattle.etcs_rows.proofs.Raised.{takes_none, takes_more, takes_block}
use Rattle.etcs_rows.proofs.length_set.add_blocks.Goals as goal

pub loop-block-init : goal.loop-block-init
loop-block-init c = takes_none c.args.by c.args.words.now c.args.at _ c.args.sums.now (omega arith)

pub loop-block-preserved : goal.loop-block-preserved
loop-block-preserved c =
    let by = c.args.by in let words = c.args.words.now in
    let place = c.args.at + c.loop-block.block * 4 in
    let high = c.args.at + (c.loop-block.block + 1) * 4 in
    rw c.add_lanes.ensures (takes_more by words c.args.at place high c.args.sums.now c.loop-block.sums _ (omega arith) (omega arith) c.loop-block.invariant (takes_block by words place high (place - by / 64 - 1) c.loop-block.sums (omega arith) (omega arith) (omega arith) (omega arith)))
