use Rattle.std.proofs.Common.{length}
use Rattle.etcs_rows.proofs.takers.+any_sum.Given as goal

abbrev pub decreases-any_sum : goal.decreases-any_sum
decreases-any_sum l = length l.sums.now
