use Rattle.std.proofs.Common.{◌+◌, ◌*◌}
use Rattle.etcs_rows.specs.Sets.{TakesIn}
use Rattle.etcs_rows.proofs.length_set.add_blocks.Given as goal

abbrev pub invariant-loop-block : goal.invariant-loop-block
invariant-loop-block l = TakesIn l.by l.words l.at (l.at + l.block * 4) l.initial.sums l.sums
