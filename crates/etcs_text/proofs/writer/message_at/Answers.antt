use Rattle.std.proofs.Common.{◌≡◌, ◌*◌, ◌≤◌, length, arith}
use Rattle.etcs_bits.specs.Bits.{bits}
use Rattle.etcs_bits.proofs.Positions.{length-bits}
use Rattle.etcs_messages.specs.Messages.{kept_message, typed_message}
use Rattle.etcs_text.specs.Entries.{of_message}
use Rattle.etcs_text.proofs.WrittenItems.{bits_counted, message_spelled, room_same, typed_begins}
use Rattle.etcs_text.proofs.writer.message_at.Goals as goal

pub returns-in_ok-kept-in-Kept-clause-some : goal.returns-in_ok-kept-in-Kept-clause-some
returns-in_ok-kept-in-Kept-clause-some g c =
    let way = g.H.Packet.AnyPacket.WAY in
    let piece = c.args.piece.now in
    let bytes = c.in-Some.bytes in
    let inside : 8 * bytes ≤ length (bits piece) = omega (arith, c.in-Some.ensures.within, length-bits piece) in
    let m = kept_message c.in-Kept.nid c.in-Kept.bits in
    let begins = rw c.in-Kept.is at c.in-Some.ensures.outline in
    let (r, reads, spells) = message_spelled way piece bytes m begins in
    let text = rw c.WAY-way.ensures at c.in_ok-kept-in-Kept.ensures.written in
    (c.in-Some.ensures.within, of_message way m, r, reads, spells, text (bits_counted way (bits piece) bytes m inside begins))

pub new-packets-requires-clause-way : goal.new-packets-requires-clause-way
new-packets-requires-clause-way g c = c.WAY-way.ensures

pub new-packets-requires-clause-inside : goal.new-packets-requires-clause-inside
new-packets-requires-clause-inside g c =
    let (order, inside, begins) = rw c.in-Typed.is at c.in-Some.ensures.outline in
    omega (arith, order, inside)

pub returns-then-branch-clause-some : goal.returns-then-branch-clause-some
returns-then-branch-clause-some g c =
    let way = g.H.Packet.AnyPacket.WAY in
    let piece = c.args.piece.now in
    let xs = bits piece in
    let bytes = c.in-Some.bytes in
    let front = c.in-Typed.front in
    let head = g.H.Variables.reading_of c.in-Typed.head in
    let body = g.B.Variables.reading_of c.in-Typed.body in
    let nid = g.B.Own.own.nid c.in-Typed.body in
    let (order, inside, begins) = rw c.in-Typed.is at c.in-Some.ensures.outline in
    let (vs, padding, has, text) = c.in_ok-typed-in-Typed.ensures.written c.if-branch.true in
    let there = room_same _ _ _ _ _ _ _ _ vs padding (rw c.WAY-way.ensures at c.new-packets.ensures.carrier) c.new-packets.ensures.room c.new-packets.ensures.piece c.new-packets.ensures.at has in
    let m = typed_message nid head body vs padding in
    let all = typed_begins way xs bytes front nid head body vs padding order begins there in
    let (r, reads, spells) = message_spelled way piece bytes m all in
    (c.in-Some.ensures.within, of_message way m, r, reads, spells, text (bits_counted way xs bytes m inside all))

pub overflow_sub-room : goal.overflow_sub-room
overflow_sub-room g c =
    let (order, inside, begins) = rw c.in-Typed.is at c.in-Some.ensures.outline in
    order
