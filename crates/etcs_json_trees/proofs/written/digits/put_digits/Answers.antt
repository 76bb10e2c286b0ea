use Rattle.etcs_json_trees.proofs.DigitBits.{block_more}
use Rattle.etcs_json_trees.proofs.written.digits.put_digits.Goals as goal

pub loop-block-preserved : goal.loop-block-preserved
loop-block-preserved c =
    let split = c.in-Some.ensures.cases in
    block_more c.args.digits.now c.loop-block.left.now c.in-Some.block.now c.in-Some.more.now 32 c.args.out.now c.loop-block.out c.put_few.new.out c.loop-block.invariant c.in_ok-put_few.ensures.some split.0 split.1
