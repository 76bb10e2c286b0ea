use Rattle.std.proofs.Common.{◌≡◌, map, take}
use Rattle.etcs_vars.specs.Reading.{spelled}
use Rattle.etcs_packets.specs.PacketReadings.{readings_to}
use Rattle.etcs_vars.specs.WordSinks.{and_bits}
use Rattle.etcs_packets.proofs.any_packet.append_all.Given as goal

-- the packets so far are put
abbrev pub invariant-loop-packet : goal.invariant-loop-packet
invariant-loop-packet g l = l.out ≡ and_bits l.fn.out (spelled (readings_to g.P.AnyPacket.WAY (map (λ p. (g.P.AnyPacket.form p).value) (take l.packet-index l.packets))))
