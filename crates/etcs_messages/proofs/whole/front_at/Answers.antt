use Rattle.std.proofs.Common.{sym, subst}
use Rattle.etcs_bits.specs.Bits.{bits}
use Rattle.etcs_messages.specs.Fronts.{WholeFront}
use Rattle.etcs_messages.proofs.whole.front_at.Given.{Over}
use Rattle.etcs_messages.proofs.whole.front_at.Goals as goal
use Rattle.etcs_messages.proofs.whole.front_at.Goals.{After-as_slice}

-- what comes before the packets
taken : (g : Over) (c : After-as_slice g) → WholeFront g.H.Packet.AnyPacket.WAY c.args.nid (bits c.args.piece.now) c.as_slice.result.now
taken g c = subst (WholeFront g.H.Packet.AnyPacket.WAY c.args.nid (bits c.args.piece.now)) (sym c.as_slice.ensures.value) (rw c.WAY.ensures at c.in_ok-numbers.ensures)

pub front_by-requires-clause-there : goal.front_by-requires-clause-there
front_by-requires-clause-there g c = (taken g (goal.at.front_by-requires-clause-there g c).After-as_slice).there

pub front_by-requires-clause-head : goal.front_by-requires-clause-head
front_by-requires-clause-head g c = (taken g (goal.at.front_by-requires-clause-head g c).After-as_slice).head

pub front_by-requires-clause-own : goal.front_by-requires-clause-own
front_by-requires-clause-own g c = (taken g (goal.at.front_by-requires-clause-own g c).After-as_slice).own

pub returns : goal.returns
returns g c = (c.as_slice.result.now, (taken g (goal.at.returns g c).After-as_slice).front, (c.front_by.ensures.head, c.front_by.ensures.own))
