use Rattle.std.proofs.Common.{◌≡◌, length}
use Rattle.etcs_runs.specs.Cuts.{parts_at}
use Rattle.etcs_runs.specs.Digits.{last_first}
use Rattle.etcs_runs.specs.LineRuns.{before_last_digits}
use Rattle.etcs_runs.proofs.front.before_last_digits.Given as goal

abbrev pub invariant-loop-left : goal.invariant-loop-left
invariant-loop-left l = before_last_digits (parts_at l.cut) (last_first (parts_at l.cut) l.text) l.count l.text ≡ before_last_digits (parts_at l.cut) (last_first (parts_at l.cut) l.rest) l.left l.rest

abbrev pub decreases-loop-left : goal.decreases-loop-left
decreases-loop-left l = length l.rest
