use Rattle.std.proofs.Common.{◌+◌, refl, arith}
use Rattle.etcs_json_trees.proofs.Parts.{more_alike}
use Rattle.etcs_json_trees.proofs.written.text.are_same_words.Goals as goal

pub loop-at-preserved : goal.loop-at-preserved
loop-at-preserved g c = (omega arith, more_alike 8 c.loop-at.at (c.loop-at.at + 8) c.args.first.now c.args.second.now refl c.loop-at.invariant.1 (c.same_eight.ensures.0 c.if-not-same_eight.false))
