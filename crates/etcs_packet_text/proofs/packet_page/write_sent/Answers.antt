use Rattle.std.proofs.lemmas.Result.{on_ok_weaker}
use Rattle.etcs_packet_text.proofs.Writings.{sent_steps}
use Rattle.etcs_packet_text.proofs.packet_page.write_sent.Goals as goal

pub returns-clause-ok : goal.returns-clause-ok
returns-clause-ok g c =
    let p = g.P.AnyPacket in
    let w = g.W.PacketPage in
    let laws = g.met.W.PacketPage in
    on_ok_weaker c.end.result (λ h. sent_steps p.WAY w.begun w.ended g.W.VarSink.with w.and_packet (laws.typed_is p.WAY) (laws.marker_is p.WAY) (p.form c.args.packet.now).value c.args.page.now c.begin.new.self c.send_body.new.out c.end.new.self c.WAY.result c.nid.result c.nid-2.result c.bit_len.result c.dir.result c.requires c.WAY.ensures c.nid.ensures c.dir.ensures c.bit_len.ensures.bits c.nid-2.ensures c.in_ok-begin.ensures.ok c.in_ok-send_body.ensures.ok h) c.end.ensures.ok
