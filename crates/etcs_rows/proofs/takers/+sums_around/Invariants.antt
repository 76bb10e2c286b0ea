use Rattle.std.proofs.Common.{length}
use Rattle.etcs_rows.proofs.takers.+sums_around.Given as goal

abbrev pub decreases-sums_around : goal.decreases-sums_around
decreases-sums_around l = length l.sums.now
