use Rattle.std.proofs.Common.{◌≡◌, ℕ}
use Rattle.std.specs.Int.{bit_at}
use Rattle.etcs_rows.specs.Sets.{Adds}
use Rattle.etcs_rows.proofs.Flags.{Passed}
use Rattle.etcs_rows.proofs.length_set.add_each.Given as goal

abbrev pub invariant-loop-left : goal.invariant-loop-left
invariant-loop-left l = record {
  passed : Adds (Passed l.word l.left l.base) l.words l.initial.sums l.sums;
  part : (i : ℕ) → bit_at l.left i ≡ 1 → bit_at l.word i ≡ 1;
}

abbrev pub decreases-loop-left : goal.decreases-loop-left
decreases-loop-left l = l.left
