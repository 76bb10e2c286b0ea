use Rattle.std.proofs.Common.{ℕ, ◌+◌, ◌*◌, ◌≤◌, ◌<◌, length}
use Rattle.etcs_tables.specs.Layouts.{layout}
use Rattle.etcs_rows.specs.Lengths.{LengthsBy, front}
use Rattle.etcs_rows.proofs.StepSums.{StepsTo}
use Rattle.etcs_rows.proofs.progression.+steps.Given as goal

abbrev pub decreases-groups_steps : goal.decreases-groups_steps
decreases-groups_steps l = 4 * length l.items.now

abbrev pub decreases-open_steps : goal.decreases-open_steps
decreases-open_steps l = 4 * length l.items.now

abbrev pub decreases-groups_each : goal.decreases-groups_each
decreases-groups_each l = 4 * length l.rest.now + 1

abbrev pub decreases-steps_each : goal.decreases-steps_each
decreases-steps_each l = 4 * length l.rest.now + 2

abbrev pub decreases-steps_of : goal.decreases-steps_of
decreases-steps_of l = 4 * length l.items.now + 1

abbrev pub decreases-counted_within : goal.decreases-counted_within
decreases-counted_within l = 4 * length l.rest.now + 1

abbrev pub decreases-steps_within : goal.decreases-steps_within
decreases-steps_within l = 4 * length l.rest.now + 3

abbrev pub invariant-groups_each-loop-number : goal.invariant-groups_each-loop-number
invariant-groups_each-loop-number l = record {
  groups : StepsTo l.var (λ n. LengthsBy (front (layout l.rest)) n) l.low l.number l.all;
  within : (n : ℕ) → l.low ≤ n → n < l.number → n ≤ l.high;
}
