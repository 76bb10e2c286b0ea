use Rattle.std.proofs.Common.{◌≡◌, ◌≤◌, ◌-◌, true}
use Rattle.std.specs.Prelude.{replicate}
use Rattle.etcs_telegram.proofs.telegram.ones.Given as goal

abbrev pub invariant-loop-left : goal.invariant-loop-left
invariant-loop-left l = (l.bits ≡ replicate (l.len - l.left) true) × (l.left ≤ l.len)

abbrev pub decreases-loop-left : goal.decreases-loop-left
decreases-loop-left l = l.left
