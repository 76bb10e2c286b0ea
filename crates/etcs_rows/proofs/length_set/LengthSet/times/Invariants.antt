use Rattle.etcs_rows.specs.Sets.{In}
use Rattle.etcs_rows.proofs.Doubling.{Doubling}
use Rattle.etcs_rows.proofs.length_set.LengthSet.times.Given as goal

abbrev pub invariant-loop-left : goal.invariant-loop-left
invariant-loop-left l = Doubling l.left l.count (In l.self) l.sums l.power

abbrev pub decreases-loop-left : goal.decreases-loop-left
decreases-loop-left l = l.left
