use Rattle.std.proofs.Common.{ℕ, ◌≤◌}
use Rattle.etcs_rows.specs.Sets.{In}
use Rattle.etcs_rows.proofs.length_set.LengthSet.first_from.Given as goal

abbrev pub invariant-loop-n : goal.invariant-loop-n
invariant-loop-n l = record {
  from : l.number ≤ l.n;
  none : (k : ℕ) → In l.self k → l.number ≤ k → l.n ≤ k;
}
