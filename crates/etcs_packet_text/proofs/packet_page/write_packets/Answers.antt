use Rattle.etcs_packet_text.proofs.Writings.{begins_then, packets_more}
use Rattle.etcs_packet_text.proofs.packet_page.write_packets.Goals as goal

pub loop-packet-preserved : goal.loop-packet-preserved
loop-packet-preserved g c =
    let l = c.loop-packet in
    let text = g.W.PacketPage.text in
    record {
      written = packets_more text g.W.PacketPage.ends (g.W.PacketPage.and_packet g.P.AnyPacket.WAY) (λ p. (g.P.AnyPacket.form p).value) c.args.packets.now l.packet-index c.packet-item.result c.args.page.now l.page c.write_packet.new.page c.loop-packet-test.true c.packet-item.is l.invariant.written c.in_ok-write_packet.ensures.ok;
      begins = begins_then _ _ _ l.invariant.begins c.write_packet.ensures.begins;
    }

pub returns-in_err-write_packet-clause-begins : goal.returns-in_err-write_packet-clause-begins
returns-in_err-write_packet-clause-begins g c = begins_then _ _ _ c.loop-packet.invariant.begins c.write_packet.ensures.begins
