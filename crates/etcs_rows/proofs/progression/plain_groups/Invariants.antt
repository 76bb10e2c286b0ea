use Rattle.std.proofs.Common.{◌≡◌, ℕ, ◌≤◌, length}
use Rattle.std.specs.Prelude.{◌↔◌}
use Rattle.etcs_tables.specs.Layouts.{layout}
use Rattle.etcs_rows.specs.Lengths.{LengthsBy, front, beyond}
use Rattle.etcs_rows.specs.Sums.{Plus}
use Rattle.etcs_rows.proofs.progression.plain_groups.Given as goal

abbrev pub invariant-loop-guard : goal.invariant-loop-guard
invariant-loop-guard l = record {
  sum : (m : ℕ) → LengthsBy (front (layout l.items)) l.before m ↔ Plus (λ k. k ≡ l.width) (LengthsBy (front (layout l.left)) l.before) m;
  same : beyond (layout l.left) ≡ beyond (layout l.items);
  shorter : length l.left ≤ length l.items;
}

abbrev pub decreases-loop-guard : goal.decreases-loop-guard
decreases-loop-guard l = length l.left
