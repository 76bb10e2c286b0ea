use Rattle.std.proofs.Common.{◌-◌, length}
use Rattle.etcs_vars.specs.Joins.{Joins}
use Rattle.etcs_vars.proofs.joining.joined.Given as goal

abbrev pub invariant-loop-count : goal.invariant-loop-count
invariant-loop-count l = Joins l.sent l.count l.width l.number

abbrev pub decreases-loop-count : goal.decreases-loop-count
decreases-loop-count l = length l.sent - l.count
