use Rattle.std.proofs.Common.{refl}
use Rattle.std.proofs.lemmas.Result.{IfOk-weaker}
use Rattle.etcs_bodies.specs.laws.PacketFormats.{passed_packet}
use Rattle.etcs_grouped.specs.InfillLocations.{infill_location_packet}
use Rattle.etcs_grouped.specs.laws.InfillLocations.{infill_location_ok}
use Rattle.etcs_grouped.proofs.infill_location.InfillLocationBody.pass.Goals as goal

pub returns-clause-passed : goal.returns-clause-passed
returns-clause-passed g c =
    let left = g.L.NextNumber.left in
    let s = g.met.S.VarSink in
    IfOk-weaker c.pass.result _ _ (λ b h yes. passed_packet infill_location_packet infill_location_ok 136 refl g.S.VarSink.with s.with_both (left c.args.numbers.now) (left c.pass.new.numbers) c.args.out.now c.pass.new.out (h yes)) c.pass.ensures.passed
