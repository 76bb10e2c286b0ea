use Rattle.std.proofs.Common.{◌-◌, ◌/◌, ◌^◌, ◌≤◌, sym, ◌∙◌, arith}
use Rattle.std.proofs.lemmas.Bool.{both_ways}
use Rattle.etcs_rows.specs.Progressions.{InGuarded}
use Rattle.etcs_rows.proofs.SumLemmas.{most_admits}
use Rattle.etcs_rows.proofs.StepSums.{steps_none, steps_more, steps_same, steps_all}
use Rattle.etcs_rows.proofs.progression.guarded_each.Goals as goal
use Rattle.etcs_rows.proofs.progression.guarded_each.Goals.{then-admits+in_ok-join, else-admits}

pub loop-number-init : goal.loop-number-init
loop-number-init c = record {
  groups = steps_none c.args.var (InGuarded c.args.test c.args.group) c.args.low;
  within = λ n l h. absurd (omega arith);
}

pub loop-number-preserved : goal.loop-number-preserved
loop-number-preserved c =
    let F = InGuarded c.args.test c.args.group in let n = c.loop-number.number in let inv = c.loop-number.invariant in
    record {
      groups = elim c.if-admits.branch [
        | then-admits+in_ok-join w ↦
            rw w.all-is (steps_more c.args.var F c.args.low n c.loop-number.all w.guarded_at.result w.in_ok-join.field-0 inv.groups (omega arith) (sym c.admits.ensures ∙ w.if-admits.true) w.guarded_at.ensures w.in_ok-join.ensures)
        | else-admits w ↦
            rw w.all-is (steps_same c.args.var F c.args.low n c.loop-number.all inv.groups (λ h. both_ways c.admits.result w.if-admits.false (c.admits.ensures ∙ h)))
      ];
      within = λ k l h. omega arith;
    }

pub returns : goal.returns
returns c =
    steps_all c.args.var (InGuarded c.args.test c.args.group) c.args.low c.args.high c.loop-number.number c.loop-number.all c.loop-number.invariant.groups c.loop-number.invariant.within
    (λ n l u a. let most : n ≤ 18446744073709551615 / 2 ^ (64 - c.width.result) = rw c.width.ensures (most_admits c.args.var n a) in omega (arith, most, c.in_ok-end.ensures))
