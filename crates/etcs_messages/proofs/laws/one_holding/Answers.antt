use Rattle.etcs_messages.proofs.OneHolding.{one_holding}
use Rattle.etcs_messages.proofs.laws.one_holding.Goals as goal

pub returns : goal.returns
returns g c = one_holding g.H.Packet.AnyPacket.WAY g.H.Packet.AnyPacket.form g.met.H.Packet.AnyPacket.one
