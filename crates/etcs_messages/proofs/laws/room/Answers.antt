use Rattle.etcs_messages.proofs.Rooms.{room_rule}
use Rattle.etcs_messages.proofs.laws.room.Goals as goal

pub returns : goal.returns
returns g c = room_rule g.H.Packet.AnyPacket.WAY
