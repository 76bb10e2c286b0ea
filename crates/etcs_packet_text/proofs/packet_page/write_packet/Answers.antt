use Rattle.std.proofs.Common.{◌∙◌, sym}
use Rattle.std.proofs.lemmas.Result.{on_ok_weaker}
use Rattle.etcs_packet_text.proofs.Writings.{kept_steps}
use Rattle.etcs_packet_text.proofs.packet_page.write_packet.Goals as goal

pub returns-in-Some-clause-ok : goal.returns-in-Some-clause-ok
returns-in-Some-clause-ok g c =
    let p = g.P.AnyPacket in
    on_ok_weaker c.keep.result (λ h. kept_steps g.W.PacketPage.and_packet p.WAY c.WAY.result (p.form c.args.packet.now).value c.in-Some.bits c.nid.result c.unwrap_or.result c.dir.result c.args.page.now c.keep.new.self (sym c.in-Some.is ∙ c.kept_bits.ensures) c.WAY.ensures c.nid.ensures c.unwrap_or.ensures c.dir.ensures h) c.keep.ensures.ok
