use Rattle.etcs_rows.specs.Sets.{TakesIn}
use Rattle.etcs_rows.proofs.length_set.add_rest.Given as goal

abbrev pub invariant-loop-i : goal.invariant-loop-i
invariant-loop-i l = TakesIn l.by l.words l.at l.i l.initial.sums l.sums
