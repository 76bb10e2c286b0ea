use Rattle.std.proofs.Common.{sym, ◌∙◌}
use Rattle.etcs_packets.specs.PacketValues.{packet_value}
use Rattle.etcs_packets.proofs.PacketsPut.{front_number, front_marker}
use Rattle.etcs_packets.proofs.write.append_front.Goals as goal

pub returns-in-Some : goal.returns-in-Some
returns-in-Some c =
    rw (front_number (packet_value c.args.packet.now) c.frame_bits.result c.frame_number-number.result c.nid.result c.in-Some.dir c.bit_len.result c.frame_bits.ensures.bits c.frame_number-number.ensures c.nid.ensures c.bit_len.ensures.bits (sym c.in-Some.is ∙ c.dir.ensures)) at c.put.ensures

pub returns-in-None : goal.returns-in-None
returns-in-None c =
    rw (front_marker (packet_value c.args.packet.now) c.from.result c.nid-in-None.result c.from.ensures c.nid-in-None.ensures (sym c.in-None.is ∙ c.dir.ensures)) at c.put-in-None.ensures
