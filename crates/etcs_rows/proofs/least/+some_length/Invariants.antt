use Rattle.std.proofs.Common.{length}
use Rattle.etcs_rows.proofs.least.+some_length.Given as goal

abbrev pub decreases-some_length : goal.decreases-some_length
decreases-some_length l = length l.items.now
