use Rattle.std.proofs.Common.{arith}
use Rattle.etcs_telegram.proofs.Encoding.{room_more, user_small}
use Rattle.etcs_telegram.proofs.WholeTelegram.{container_inside}
use Rattle.etcs_text.proofs.WrittenItems.{room_same, telegram_spelled}
use Rattle.etcs_text.proofs.writer.telegram_at.Goals as goal

pub new-packets-requires-clause-inside : goal.new-packets-requires-clause-inside
new-packets-requires-clause-inside g c = omega (arith, container_inside c.args.size c.args.piece.now c.in-Some.ensures.within, room_more c.args.size, c.packet_room.ensures)

pub new-packets-requires-clause-room : goal.new-packets-requires-clause-room
new-packets-requires-clause-room g c = omega (arith, room_more c.args.size, user_small c.args.size, c.packet_room.ensures)

pub returns-then-branch-clause-some : goal.returns-then-branch-clause-some
returns-then-branch-clause-some g c =
    let (vs, fill, has, is) = c.in_ok-telegram.ensures.written c.if-branch.true in
    let there = room_same _ _ _ _ _ _ _ _ vs fill c.new-packets.ensures.carrier c.new-packets.ensures.room c.new-packets.ensures.piece c.new-packets.ensures.at has in
    let (r, reads, spells) = telegram_spelled c.args.size c.args.piece.now c.packet_room.result c.in-Some.header vs fill c.in-Some.ensures.within c.packet_room.ensures c.in-Some.ensures.admitted c.in-Some.ensures.bits c.in-Some.ensures.pad there in
    rw c.container_bytes.ensures (c.in-Some.ensures.within, _, r, reads, spells, is)
