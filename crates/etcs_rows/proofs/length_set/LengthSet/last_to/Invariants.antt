use Rattle.std.proofs.Common.{ℕ, ◌+◌, ◌≤◌, ◌<◌}
use Rattle.etcs_rows.specs.Sets.{In}
use Rattle.etcs_rows.proofs.length_set.LengthSet.last_to.Given as goal

abbrev pub invariant-loop-end : goal.invariant-loop-end
invariant-loop-end l = record {
  to : l.end ≤ l.number + 1;
  all : (k : ℕ) → In l.self k → k ≤ l.number → k < l.end;
}

abbrev pub decreases-loop-end : goal.decreases-loop-end
decreases-loop-end l = l.end
