use Rattle.std.proofs.Common.{length}
use Rattle.etcs_rows.proofs.head.+after_groups.Given as goal

abbrev pub decreases-after_groups : goal.decreases-after_groups
decreases-after_groups l = length l.items.now
