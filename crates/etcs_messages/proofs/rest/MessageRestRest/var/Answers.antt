use Rattle.etcs_messages.proofs.RestStands.{front_next}
use Rattle.etcs_messages.proofs.RestHolds.{state}
use Rattle.etcs_messages.proofs.rest.MessageRestRest.var.Goals as goal

pub returns-in-Front : goal.returns-in-Front
returns-in-Front g c =
    let i = c.self.inside in
    let v = c.self.view_is in
    let s = state g.H.Packet.AnyPacket.WAY i.nid i.phase i.front.items i.packets.left i.padding i.packets.store i.stands in
    rw (← v) (front_next s c.in-Front.at c.front_var.result c.in-Front.is (λ vars typed. c.front_var.ensures vars (rw c.WAY.ensures typed)))
