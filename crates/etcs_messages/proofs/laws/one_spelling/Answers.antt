use Rattle.etcs_messages.proofs.Spelling.{one_spelled}
use Rattle.etcs_messages.proofs.laws.one_spelling.Goals as goal

pub returns : goal.returns
returns g c = one_spelled g.H.Packet.AnyPacket.WAY g.H.Head.head g.B.Own.own g.H.Packet.AnyPacket.form g.met.H.Head.laws g.met.B.Own.laws g.met.H.Packet.AnyPacket.one
