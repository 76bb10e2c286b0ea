use Rattle.std.proofs.Common.{refl, arith}
use Rattle.std.proofs.lemmas.Bool.{both_ways}
use Rattle.etcs_rows.specs.Progressions.{InProgression, AtMost}
use Rattle.etcs_rows.proofs.StepSums.{times_past, times_more, times_none, times_found, times_not}
use Rattle.etcs_rows.proofs.total.any_times.Goals as goal

pub returns-then-branch-number : goal.returns-then-branch-number
returns-then-branch-number c =
    let t = c.args.times in let sum = c.in_ok-checked_add.ensures.1 in
    times_past t.group c.in_ok-all.all c.args.sum (AtMost c.args.slack) t.first t.last c.loop-count.count c.args.number c.loop-count.invariant.none c.in_ok-all.ensures (omega arith)

pub returns-then-near : goal.returns-then-near
returns-then-near c =
    let t = c.args.times in (
      λ x. times_found t.group c.in_ok-all.all c.in_ok-plus.field-0 c.args.sum (AtMost c.args.slack) t.first t.last c.loop-count.count c.args.number (omega arith) (omega (arith, c.in_ok-end.ensures)) c.in_ok-all.ensures c.in_ok-plus.ensures (c.near.ensures.0 c.if-near.true),
      λ x. refl,
    )

pub loop-count-preserved : goal.loop-count-preserved
loop-count-preserved c =
    let X = AtMost c.args.slack in
    record {
      none = times_more c.args.times.group c.in_ok-all.all (InProgression c.args.sum) X c.args.times.first c.loop-count.count c.args.number c.loop-count.invariant.none c.in_ok-all.ensures
          (times_not c.in_ok-all.all c.in_ok-plus.field-0 (InProgression c.args.sum) X c.args.number c.in_ok-plus.ensures (λ h. both_ways c.near.result c.if-near.false (c.near.ensures.1 h)));
    }

pub returns : goal.returns
returns c =
    let t = c.args.times in let end = c.in_ok-end.ensures in
    times_none t.group (InProgression c.args.sum) (AtMost c.args.slack) t.first t.last c.loop-count.count c.args.number c.loop-count.invariant.none (omega (arith, end))
