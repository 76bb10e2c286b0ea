use Rattle.etcs_rows.specs.Progressions.{InProgression, AtMost}
use Rattle.etcs_rows.proofs.StepSums.{NoTimes}
use Rattle.etcs_rows.proofs.total.any_times.Given as goal

abbrev pub invariant-loop-count : goal.invariant-loop-count
invariant-loop-count l = record { none : NoTimes l.times.group (InProgression l.sum) (AtMost l.slack) l.times.first l.count l.number }
