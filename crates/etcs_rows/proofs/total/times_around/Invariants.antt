use Rattle.std.proofs.Common.{ℕ, ◌≤◌, ◌<◌}
use Rattle.etcs_rows.specs.Progressions.{InProgression}
use Rattle.etcs_rows.specs.Sums.{Plus}
use Rattle.etcs_rows.specs.Nearest.{IsNear}
use Rattle.etcs_rows.proofs.NearLemmas.{TimesTo}
use Rattle.etcs_rows.proofs.total.times_around.Given as goal

abbrev pub invariant-loop-count : goal.invariant-loop-count
invariant-loop-count l = record { next_to : IsNear (Plus (InProgression l.sum) (TimesTo l.times.group l.times.first l.count)) l.number l.near; within : (n : ℕ) → l.times.first ≤ n → n < l.count → n ≤ l.times.last }
