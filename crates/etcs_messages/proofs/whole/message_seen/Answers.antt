use Rattle.std.proofs.Common.{arith}
use Rattle.etcs_bits.specs.Bits.{bits}
use Rattle.etcs_messages.specs.Lefts.{front_row}
use Rattle.etcs_messages.specs.Fronts.{WholeFront}
use Rattle.etcs_messages.proofs.MessagesAtOnce.{kept_seen, typed_front, untyped_front, typed_seen}
use Rattle.etcs_messages.proofs.whole.message_seen.Goals as goal

pub returns-in_default-clause-reads : goal.returns-in_default-clause-reads
returns-in_default-clause-reads g c =
    let way = g.H.Packet.AnyPacket.WAY in
    let is = c.in_ok-nid.ensures in
    kept_seen way c.in_ok-nid.nid c.in_ok-nid.bytes (bits c.args.piece.now) (untyped_front (front_row way c.in_ok-nid.nid) (rw c.WAY.ensures at c.in_default.ensures)) is.small is.least is.most is.inside is.number is.length

pub front_numbers-requires-clause-inside : goal.front_numbers-requires-clause-inside
front_numbers-requires-clause-inside g c = omega (arith, c.in_ok-nid.ensures.least, c.in_ok-nid.ensures.inside)

pub returns-in-All-clause-reads : goal.returns-in-All-clause-reads
returns-in-All-clause-reads g c =
    let way = g.H.Packet.AnyPacket.WAY in
    let nid = c.in_ok-nid.nid in
    let is = c.in_ok-nid.ensures in
    let f = c.in_ok-front_numbers.field-0.items in
    let (vars, typed, wide) = typed_front (front_row way nid) c.in-Some.front (rw c.WAY.ensures at c.in-Some.ensures) in
    let there : WholeFront way nid (bits c.args.piece.now) f = rw c.WAY-2.ensures at c.in_ok-front_numbers.ensures in
    typed_seen way nid c.in_ok-nid.bytes c.in-Some.front c.in-All.field-0 vars f _ (bits c.args.piece.now) typed is.small is.most wide c.if-front-end.false is.inside is.number is.length there.front (rw c.WAY-3.ensures at (rw c.in-All.is at c.in_ok-take_run.ensures.run))
