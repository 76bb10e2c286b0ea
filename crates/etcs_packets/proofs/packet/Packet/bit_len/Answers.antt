use Rattle.std.proofs.Common.{sym, ◌∙◌}
use Rattle.etcs_packets.specs.PacketValues.{packet_value}
use Rattle.etcs_packets.specs.laws.PacketReadings.{packet_bits}
use Rattle.etcs_packets.proofs.packet.Packet.bit_len.Goals as goal

pub returns-clause-spelling : goal.returns-clause-spelling
returns-clause-spelling c = c.bits_in.ensures.bits ∙ sym (packet_bits (packet_value c.args.self.now))
