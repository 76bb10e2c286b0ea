use Rattle.std.proofs.Common.{[], ◌∷◌, refl}
use Rattle.std.proofs.lemmas.Result.{IfOk-weaker}
use Rattle.etcs_vars.specs.Reading.{Reading}
use Rattle.etcs_vars.specs.declared.var.Var.TheVariants.{Q_SCALE, V_LOA, T_LOA}
use Rattle.etcs_bodies.specs.laws.PacketFormats.{passed_packet}
use Rattle.etcs_bodies.specs.laws.Passing.{number_before, number_alone, went_both}
use Rattle.etcs_grouped.specs.Level23Mas.{level23_ma_packet}
use Rattle.etcs_grouped.specs.laws.Level23Mas.{level23_ma_ok}
use Rattle.etcs_bodies.specs.Formats.{reading}
use Rattle.etcs_parts.specs.Authorities.{authority_format}
use Rattle.etcs_grouped.proofs.level23_ma.Level23MaBody.pass.Goals as goal

pub returns-clause-passed : goal.returns-clause-passed
returns-clause-passed g c =
    let left = g.L.NextNumber.left in
    let with = g.S.VarSink.with in
    let both = g.met.S.VarSink.with_both in
    let first = left c.args.numbers.now in
    let begun = left c.run.new.self in
    let last = left c.pass.new.numbers in
    let k = c.in-Some in
    let (u0, n0, (u1, n1, n2)) = k.ensures.some in
    let r2 : Reading = (T_LOA, k.t_loa) ∷ [] in
    let r1 : Reading = (V_LOA, k.v_loa) ∷ r2 in
    let r0 : Reading = (Q_SCALE, k.q_scale) ∷ r1 in
    let taken = number_before Q_SCALE k.q_scale first u0 begun r1 n0.0 (number_before V_LOA k.v_loa u0 u1 begun r2 n1.0 (number_alone T_LOA k.t_loa u1 begun n2.0)) in
    IfOk-weaker c.pass.result _ _ (λ b h yes.
    let (a, all, y) = h yes in
    passed_packet level23_ma_packet level23_ma_ok 15 refl with both first last c.args.out.now c.pass.new.out
    ((k.q_scale, (k.v_loa, (k.t_loa, a))), (n0.1, (n1.1, (n2.1, all))), went_both with both first begun last c.args.out.now c.send.new.self c.pass.new.out r0 (reading authority_format a) (record { taken = taken; sent = c.in_ok-send.ensures.ok }) y)) c.pass.ensures.passed
