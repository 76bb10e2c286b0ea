use Rattle.std.proofs.Common.{ap, ◌∙◌, arith}
use Rattle.etcs_bits.specs.Bits.{bits}
use Rattle.etcs_sequence.specs.declared.list.PacketList.{PacketList}
use Rattle.etcs_messages.specs.declared.message.Content.TheVariants.{Typed}
use Rattle.etcs_messages.proofs.MessagesAtOnce.{ReadAtOnce, typed_at_once}
use Rattle.etcs_messages.proofs.whole.typed_at.Given.{Over}
use Rattle.etcs_messages.proofs.whole.typed_at.Goals as goal
use Rattle.etcs_messages.proofs.whole.typed_at.Goals.{After-from_vec}

-- the message that was read
taken : (g : Over) (c : After-from_vec g) → ReadAtOnce g.H.Packet.AnyPacket.WAY g.H.Head.head g.B.Own.own g.H.Packet.AnyPacket.form (Typed c.in_ok-head.head c.in_ok-head.body c.from_vec.result c.number_at-padding.result) c.args.bytes (bits c.args.piece.now)
taken g c =
    let a = c.args in
    let xs = bits a.piece.now in
    let store = c.take_run.new.store in
    let list = g.H.Store.ListStore.list store in
    let (vars, typed, wide) = c.requires.typed in
    let (f, front, by) = c.in_ok-head.ensures in
    typed_at_once g.H.Packet.AnyPacket.WAY g.H.Head.head g.B.Own.own g.H.Packet.AnyPacket.form g.met.H.Head.laws g.met.B.Own.laws a.nid a.bytes a.front c.in-All.left c.number_at-padding.result vars f c.in_ok-head.head c.in_ok-head.body list (g.H.Store.PacketSink.holds store) c.from_vec.result xs typed (omega (arith, c.ranges.nid.fits)) c.requires.most wide c.if-front-end.false c.requires.inside c.requires.number c.requires.length front by (rw c.WAY.ensures at (rw c.in-All.is at c.in_ok-left.ensures.run)) (g.met.H.Store.ListStore.listed store) c.number_at-padding.ensures.bits c.number_at-padding.ensures.fits (c.from_vec.ensures ∙ ap (λ (l : PacketList _). l.packets.items) c.into_list.ensures)

pub front_at-requires-clause-inside : goal.front_at-requires-clause-inside
front_at-requires-clause-inside g c =
    let (vars, typed, wide) = c.requires.typed in
    omega (arith, wide, c.if-front-end.false, c.requires.inside)

pub invariant_of-result : goal.invariant_of-result
invariant_of-result g c = let read = taken g (goal.at.invariant_of-result g c).After-from_vec in (read.message, read.bytes)

pub returns-clause-value : goal.returns-clause-value
returns-clause-value g c = (taken g (goal.at.returns-clause-value g c).After-from_vec).message

pub returns-clause-reads : goal.returns-clause-reads
returns-clause-reads g c = (taken g (goal.at.returns-clause-reads g c).After-from_vec).reads
