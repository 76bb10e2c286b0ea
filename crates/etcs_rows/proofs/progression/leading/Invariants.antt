use Rattle.std.proofs.Common.{◌≡◌, ℕ, ◌≤◌, length}
use Rattle.std.specs.Prelude.{◌↔◌}
use Rattle.etcs_tables.specs.Layouts.{layout}
use Rattle.etcs_rows.specs.Lengths.{LengthsBy}
use Rattle.etcs_rows.specs.Sums.{Plus}
use Rattle.etcs_rows.proofs.progression.leading.Given as goal

abbrev pub invariant-loop-var : goal.invariant-loop-var
invariant-loop-var l = record {
  sum : (m : ℕ) → LengthsBy (layout l.items) 0 m ↔ Plus (λ k. k ≡ l.width) (LengthsBy (layout l.left) 0) m;
  shorter : length l.left ≤ length l.items;
}

abbrev pub decreases-loop-var : goal.decreases-loop-var
decreases-loop-var l = length l.left
