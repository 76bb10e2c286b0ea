use Rattle.std.proofs.Common.{[], ◌∷◌, refl}
use Rattle.std.proofs.lemmas.Result.{IfOk-weaker}
use Rattle.etcs_vars.specs.Reading.{Reading}
use Rattle.etcs_vars.specs.declared.var.Var.TheVariants.{Q_SCALE, T_CYCLOC, D_CYCLOC, M_LOC, N_ITER}
use Rattle.etcs_bodies.specs.laws.PacketFormats.{passed_packet}
use Rattle.etcs_bodies.specs.laws.Passing.{number_before, number_alone, went_both}
use Rattle.etcs_grouped.specs.ReportParameters.{report_parameters_packet}
use Rattle.etcs_grouped.specs.laws.ReportParameters.{report_parameters_ok}
use Rattle.etcs_bodies.specs.Formats.{reading, listed}
use Rattle.etcs_parts.specs.ReportsAt.{report_at_format}
use Rattle.etcs_grouped.proofs.report_parameters.ReportParametersBody.pass.Goals as goal

pub returns-clause-passed : goal.returns-clause-passed
returns-clause-passed g c =
    let left = g.L.NextNumber.left in
    let with = g.S.VarSink.with in
    let both = g.met.S.VarSink.with_both in
    let first = left c.args.numbers.now in
    let begun = left c.run.new.self in
    let last = left c.pass.new.numbers in
    let k = c.in-Some in
    let (u0, n0, (u1, n1, (u2, n2, n3))) = k.ensures.some in
    let r3 : Reading = (M_LOC, k.m_loc) ∷ [] in
    let r2 : Reading = (D_CYCLOC, k.d_cycloc) ∷ r3 in
    let r1 : Reading = (T_CYCLOC, k.t_cycloc) ∷ r2 in
    let r0 : Reading = (Q_SCALE, k.q_scale) ∷ r1 in
    let taken = number_before Q_SCALE k.q_scale first u0 begun r1 n0.0 (number_before T_CYCLOC k.t_cycloc u0 u1 begun r2 n1.0 (number_before D_CYCLOC k.d_cycloc u1 u2 begun r3 n2.0 (number_alone M_LOC k.m_loc u2 begun n3.0))) in
    IfOk-weaker c.pass.result _ _ (λ b h yes.
    let (a, all, y) = h yes in
    passed_packet report_parameters_packet report_parameters_ok 58 refl with both first last c.args.out.now c.pass.new.out
    ((k.q_scale, (k.t_cycloc, (k.d_cycloc, (k.m_loc, a)))), (n0.1, (n1.1, (n2.1, (n3.1, all)))), went_both with both first begun last c.args.out.now c.send.new.self c.pass.new.out r0 (reading (listed N_ITER report_at_format) a) (record { taken = taken; sent = c.in_ok-send.ensures.ok }) y)) c.pass.ensures.passed
