use Rattle.etcs_tables.specs.Layouts.{layout}
use Rattle.etcs_rows.specs.Lengths.{LengthsBy}
use Rattle.etcs_rows.specs.Progressions.{InProgression}
use Rattle.etcs_rows.specs.Sums.{SumOf}
use Rattle.etcs_rows.proofs.LengthLemmas.{SameSet, SumOf-same}
use Rattle.etcs_rows.proofs.StepSums.{some_are}
use Rattle.etcs_rows.proofs.fitting.again_steps.Goals as goal

pub returns : goal.returns
returns c =
    let p = c.args.pending.now in
    let G = LengthsBy (layout p.group.now) p.before in let g = InProgression c.in_ok-pending.field-0 in
    let known : SameSet g G = rw c.in_ok-pending.was at c.requires in
    some_are c.times.result (SumOf p.times g) (SumOf p.times G) (SumOf-same p.times g G known) c.times.ensures
