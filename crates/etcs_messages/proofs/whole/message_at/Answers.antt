use Rattle.etcs_messages.specs.Lefts.{front_row}
use Rattle.etcs_messages.proofs.MessagesAtOnce.{typed_front}
use Rattle.etcs_messages.proofs.whole.message_at.Goals as goal

pub typed_at-requires-clause-typed : goal.typed_at-requires-clause-typed
typed_at-requires-clause-typed g c = typed_front (front_row g.H.Packet.AnyPacket.WAY c.in_ok-nid.nid) c.in-Some.front (rw c.WAY.ensures at c.in-Some.ensures)
