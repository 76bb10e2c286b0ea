use Rattle.std.proofs.Common.{[], ◌∷◌, refl}
use Rattle.std.proofs.lemmas.Result.{IfOk-weaker}
use Rattle.etcs_vars.specs.Reading.{Reading}
use Rattle.etcs_vars.specs.declared.var.Var.TheVariants.{Q_SCALE, NID_LRBG, NID_PRVLRBG}
use Rattle.etcs_tables.specs.declared.row.Way.TheVariants.{ToTrack}
use Rattle.etcs_bodies.specs.Formats.{reading}
use Rattle.etcs_bodies.specs.laws.Formats.{codes_of}
use Rattle.etcs_bodies.specs.laws.Passing.{number_before, number_alone, went_both, passed_row}
use Rattle.etcs_track.specs.Locations.{located_format, IsLocated}
use Rattle.etcs_track.specs.Reports.{position_report_two_value, position_report_two_format}
use Rattle.etcs_track.specs.laws.Reports.{position_report_two_ok}
use Rattle.etcs_track.proofs.position_report_two.PositionReportTwoBody.pass.Goals as goal

pub returns-clause-passed : goal.returns-clause-passed
unfolding IsLocated
returns-clause-passed g c =
    let left = g.L.NextNumber.left in
    let with = g.S.VarSink.with in
    let both = g.met.S.VarSink.with_both in
    let first = left c.args.numbers.now in
    let begun = left c.run.new.self in
    let last = left c.pass.new.numbers in
    let k = c.in-Some in
    let (u0, n0, (u1, n1, n2)) = k.ensures.some in
    let r2 : Reading = (NID_PRVLRBG, k.nid_prvlrbg) ∷ [] in
    let r1 : Reading = (NID_LRBG, k.nid_lrbg) ∷ r2 in
    let r0 : Reading = (Q_SCALE, k.q_scale) ∷ r1 in
    let taken = number_before Q_SCALE k.q_scale first u0 begun r1 n0.0 (number_before NID_LRBG k.nid_lrbg u0 u1 begun r2 n1.0 (number_alone NID_PRVLRBG k.nid_prvlrbg u1 begun n2.0)) in
    IfOk-weaker c.pass.result _ _ (λ b h yes.
    let (a, all, y) = h yes in
    passed_row with both (codes_of position_report_two_format position_report_two_ok) ToTrack 1 refl first last c.args.out.now c.pass.new.out
    (position_report_two_value k.q_scale k.nid_lrbg k.nid_prvlrbg a, (n0.1, (n1.1, (n2.1, all))), went_both with both first begun last c.args.out.now c.send.new.self c.pass.new.out r0 (reading located_format a) (record { taken = taken; sent = c.in_ok-send.ensures.ok }) y)) c.pass.ensures.passed
