use Rattle.std.proofs.Common.{[], ◌∷◌, refl}
use Rattle.std.proofs.lemmas.Result.{IfOk-weaker}
use Rattle.etcs_vars.specs.Reading.{Reading}
use Rattle.etcs_vars.specs.declared.var.Var.TheVariants.{Q_SCALE, D_LEVELTR}
use Rattle.etcs_bodies.specs.laws.PacketFormats.{passed_packet}
use Rattle.etcs_bodies.specs.laws.Passing.{number_before, number_alone, went_both}
use Rattle.etcs_grouped.specs.LevelOrders.{level_order_packet}
use Rattle.etcs_grouped.specs.laws.LevelOrders.{level_order_ok}
use Rattle.etcs_bodies.specs.Formats.{reading, entries}
use Rattle.etcs_parts.specs.LevelAcks.{level_ack_format}
use Rattle.etcs_grouped.proofs.level_order.LevelOrderBody.pass.Goals as goal

pub returns-clause-passed : goal.returns-clause-passed
returns-clause-passed g c =
    let left = g.L.NextNumber.left in
    let with = g.S.VarSink.with in
    let both = g.met.S.VarSink.with_both in
    let first = left c.args.numbers.now in
    let begun = left c.run.new.self in
    let last = left c.pass.new.numbers in
    let k = c.in-Some in
    let (u0, n0, n1) = k.ensures.some in
    let r1 : Reading = (D_LEVELTR, k.d_leveltr) ∷ [] in
    let r0 : Reading = (Q_SCALE, k.q_scale) ∷ r1 in
    let taken = number_before Q_SCALE k.q_scale first u0 begun r1 n0.0 (number_alone D_LEVELTR k.d_leveltr u0 begun n1.0) in
    IfOk-weaker c.pass.result _ _ (λ b h yes.
    let (a, all, y) = h yes in
    passed_packet level_order_packet level_order_ok 41 refl with both first last c.args.out.now c.pass.new.out
    ((k.q_scale, (k.d_leveltr, a)), (n0.1, (n1.1, all)), went_both with both first begun last c.args.out.now c.send.new.self c.pass.new.out r0 (reading (entries level_ack_format) a) (record { taken = taken; sent = c.in_ok-send.ensures.ok }) y)) c.pass.ensures.passed
