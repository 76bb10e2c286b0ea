use Rattle.std.proofs.Common.{[], ◌∷◌, refl}
use Rattle.std.proofs.lemmas.Result.{IfOk-weaker}
use Rattle.etcs_vars.specs.declared.var.Var.TheVariants.{Q_SCALE}
use Rattle.etcs_bodies.specs.Formats.{reading}
use Rattle.etcs_bodies.specs.laws.PacketFormats.{passed_packet}
use Rattle.etcs_bodies.specs.laws.Passing.{number_alone, went_both}
use Rattle.etcs_grouped.specs.TrackConditions.{state_format, track_condition_packet}
use Rattle.etcs_grouped.specs.laws.TrackConditions.{track_condition_ok}
use Rattle.etcs_grouped.proofs.track_condition.TrackConditionBody.pass.Goals as goal

pub returns-clause-passed : goal.returns-clause-passed
returns-clause-passed g c =
    let left = g.L.NextNumber.left in
    let with = g.S.VarSink.with in
    let both = g.met.S.VarSink.with_both in
    let first = left c.args.numbers.now in
    let out = c.args.out.now in
    let begun = left c.next.new.self in
    let last = left c.pass_state.new.numbers in
    let k = c.in-Some in
    IfOk-weaker c.pass_state.result _ _ (λ b h yes.
    let (a, all, y) = h yes in
    passed_packet track_condition_packet track_condition_ok 68 refl with both first last out c.pass_state.new.out
    ((k.q_scale, a), (k.ensures.admitted, all), went_both with both first begun last out c.send.new.self c.pass_state.new.out ((Q_SCALE, k.q_scale) ∷ []) (reading state_format a) (record { taken = number_alone Q_SCALE k.q_scale first begun k.ensures.next; sent = c.in_ok-send.ensures.ok }) y)) c.pass_state.ensures.passed
