use Rattle.std.proofs.Common.{◌≡◌, ◌-◌}
use Rattle.etcs_runs.specs.Cuts.{parts_at}
use Rattle.etcs_runs.specs.Digits.{before_words}
use Rattle.etcs_runs.proofs.front.before_words.Given as goal

abbrev pub invariant-loop : goal.invariant-loop
invariant-loop l = before_words (parts_at l.cut) l.count l.text ≡ before_words (parts_at l.cut) (l.count - l.counter) l.rest
