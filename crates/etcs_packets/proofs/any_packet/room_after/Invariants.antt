use Rattle.etcs_packets.proofs.Leaving.{Leaves}
use Rattle.etcs_packets.proofs.any_packet.room_after.Given as goal

-- what the packets so far leave
abbrev pub invariant-loop-packet : goal.invariant-loop-packet
invariant-loop-packet g l = Leaves g.P.AnyPacket.WAY g.P.AnyPacket.form l.fn.room l.packets l.packet-index l.left
