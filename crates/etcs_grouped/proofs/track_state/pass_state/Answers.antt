use Rattle.std.proofs.Common.{◌≡◌, [], ◌∷◌, Bool, true, false, Some, refl, inl, inr}
use Rattle.std.proofs.lemmas.Result.{IfOk-weaker}
use Rattle.etcs_vars.specs.declared.var.Var.TheVariants.{Q_TRACKINIT, D_TRACKINIT}
use Rattle.etcs_bodies.specs.Formats.{reading, entries}
use Rattle.etcs_bodies.specs.laws.Takes.{flag_sound}
use Rattle.etcs_bodies.specs.laws.Passing.{flag_before, number_alone, went_both}
use Rattle.etcs_parts.specs.Conditions.{condition_format}
use Rattle.etcs_grouped.proofs.track_state.pass_state.Goals as goal

pub returns-then-initial-clause-passed : goal.returns-then-initial-clause-passed
returns-then-initial-clause-passed g c =
    let left = g.L.NextNumber.left in
    let first = left c.args.numbers.now in
    let begun = left c.flag.new.self in
    let last = left c.next.new.self in
    let k = c.in-Some-next in
    λ yes. (
      inl k.distance,
      k.ensures.admitted,
      record {
        taken = flag_before Q_TRACKINIT true first begun last ((D_TRACKINIT, k.distance) ∷ []) refl (rw c.if-initial.true at c.in-Some.ensures.next) (number_alone D_TRACKINIT k.distance begun last k.ensures.next);
        sent = c.in_ok-send.ensures.ok;
      },
    )

pub returns-clause-passed : goal.returns-clause-passed
returns-clause-passed g c =
    let left = g.L.NextNumber.left in
    let with = g.S.VarSink.with in
    let both = g.met.S.VarSink.with_both in
    let first = left c.args.numbers.now in
    let out = c.args.out.now in
    let begun = left c.flag.new.self in
    let last = left c.pass.new.numbers in
    IfOk-weaker c.pass.result _ _ (λ b h yes.
    let (a, all, y) = h yes in (
      inr a,
      all,
      went_both with both first begun last out c.send-2.new.self c.pass.new.out ((Q_TRACKINIT, 0) ∷ []) (reading (entries condition_format) a)
          (record { taken = flag_sound Q_TRACKINIT false first begun refl (rw c.if-initial.false at c.in-Some.ensures.next); sent = c.in_ok-send-2.ensures.ok }) y,
    )) c.pass.ensures.passed
