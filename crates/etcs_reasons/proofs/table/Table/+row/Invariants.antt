use Rattle.std.proofs.Common.{length, ◌<◌}
use Rattle.etcs_reasons.proofs.table.Table.+row.Given as goal

abbrev pub decreases-row : goal.decreases-row
decreases-row l = length l.items.now

abbrev pub invariant-loop-entry : goal.invariant-loop-entry
invariant-loop-entry l = (length l.group < length l.items) × (length l.rest < length l.items)
