use Rattle.etcs_packets.proofs.PacketsPut.{append_more}
use Rattle.etcs_packets.proofs.any_packet.append_all.Goals as goal

pub loop-packet-preserved : goal.loop-packet-preserved
loop-packet-preserved g c =
    let l = c.loop-packet in
    append_more g.P.AnyPacket.WAY (λ p. (g.P.AnyPacket.form p).value) c.args.packets.now l.packet-index c.packet-item.result c.args.out.now l.out c.append.new.out c.loop-packet-test.true c.packet-item.is l.invariant c.append.ensures
