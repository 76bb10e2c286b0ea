use Rattle.std.proofs.Common.{ℕ, ◌≤◌, ◌<◌}
use Rattle.etcs_rows.specs.Progressions.{InGuarded}
use Rattle.etcs_rows.proofs.StepSums.{StepsTo}
use Rattle.etcs_rows.proofs.progression.guarded_each.Given as goal

abbrev pub invariant-loop-number : goal.invariant-loop-number
invariant-loop-number l = record {
  groups : StepsTo l.var (InGuarded l.test l.group) l.low l.number l.all;
  within : (n : ℕ) → l.low ≤ n → n < l.number → n ≤ l.high;
}
