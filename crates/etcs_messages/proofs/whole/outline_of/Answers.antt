use Rattle.std.proofs.Common.{arith}
use Rattle.etcs_bits.specs.Bits.{bits}
use Rattle.etcs_messages.specs.Lefts.{front_row}
use Rattle.etcs_messages.proofs.MessagesAtOnce.{typed_front, untyped_front, kept_outline, typed_outline}
use Rattle.etcs_messages.proofs.whole.outline_of.Goals as goal

pub returns-in_default-clause-outline : goal.returns-in_default-clause-outline
returns-in_default-clause-outline g c =
    let way = g.H.Packet.AnyPacket.WAY in
    let is = c.in_ok-nid.ensures in
    kept_outline way g.H.Variables.reading_of g.B.Variables.reading_of g.B.Own.own c.in_ok-nid.nid c.in_ok-nid.bytes c.bits_at-bits.result (bits c.args.piece.now) (untyped_front (front_row way c.in_ok-nid.nid) (rw c.WAY.ensures at c.in_default.ensures)) is.small is.least is.most is.inside is.number is.length c.bits_at-bits.ensures

pub front_at-requires-clause-inside : goal.front_at-requires-clause-inside
front_at-requires-clause-inside g c = omega (arith, c.in_ok-nid.ensures.least, c.in_ok-nid.ensures.inside)

pub returns-clause-outline : goal.returns-clause-outline
returns-clause-outline g c =
    let way = g.H.Packet.AnyPacket.WAY in
    let nid = c.in_ok-nid.nid in
    let is = c.in_ok-nid.ensures in
    let (vars, typed, wide) = typed_front (front_row way nid) c.in-Some.front (rw c.WAY.ensures at c.in-Some.ensures) in
    let (f, front, by) = c.in_ok-head.ensures in
    typed_outline way g.H.Head.head g.B.Own.own g.met.H.Head.laws g.met.B.Own.laws nid c.in_ok-nid.bytes c.in-Some.front vars f c.in_ok-head.head c.in_ok-head.body (bits c.args.piece.now) typed is.small is.most wide c.if-front-end.false is.inside is.number is.length front by
