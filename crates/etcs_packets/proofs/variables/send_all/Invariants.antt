use Rattle.std.proofs.Common.{◌≡◌, map, take}
use Rattle.etcs_packets.specs.PacketReadings.{readings_to}
use Rattle.etcs_packets.proofs.variables.send_all.Given as goal

abbrev pub invariant-loop-packet : goal.invariant-loop-packet
invariant-loop-packet g l = l.out ≡ g.S.VarSink.with l.fn.out (readings_to g.P.AnyPacket.WAY (map (λ p. (g.P.AnyPacket.form p).value) (take l.packet-index l.packets)))
