use Rattle.std.proofs.Common.{[], arith}
use Rattle.etcs_telegram.proofs.Encoding.{room_more}
use Rattle.etcs_telegram.proofs.WholeTelegram.{container_inside, fill_fits, whole_value, whole_reads}
use Rattle.etcs_telegram.proofs.whole.telegram_at.Goals as goal

pub take_run-requires-clause-inside : goal.take_run-requires-clause-inside
take_run-requires-clause-inside c =
    let long = container_inside c.args.size c.args.piece.now c.in_ok-header.ensures.within in
    omega (arith, long, room_more c.args.size, c.packet_room-bits.ensures)

pub bits_at-requires : goal.bits_at-requires
bits_at-requires c =
    let long = container_inside c.args.size c.args.piece.now c.in_ok-header.ensures.within in
    omega (arith, long, (rw c.in-All.is at c.in_ok-left.ensures.run).within, room_more c.args.size, c.packet_room-bits.ensures, c.user_bits.ensures)

pub bits-requires : goal.bits-requires
bits-requires c =
    let run = rw c.in-All.is at c.in_ok-left.ensures.run in
    let fits = fill_fits c.args.size c.args.piece.now c.in-All.left c.packet_room-bits.result c.user_bits.result _ c.in_ok-header.ensures.within c.packet_room-bits.ensures c.user_bits.ensures run c.bits_at.result c.bits_at.ensures in
    ∣ (run.packets, ([], ([], (run.held, fits)))) ∣₁

pub invariant_of-result : goal.invariant_of-result
invariant_of-result c =
    let run = rw c.in-All.is at c.in_ok-left.ensures.run in
    let s = c.bits.new.self.list in
    rw c.from_vec.ensures (whole_value c.args.size c.args.piece.now c.in-All.left c.packet_room-bits.result c.user_bits.result _ c.in_ok-header.ensures.within c.packet_room-bits.ensures c.user_bits.ensures run c.bits_at.result c.bits_at.ensures c.in_ok-header.header c.in_ok-header.ensures.admitted s.packets.items s.numbers.items s.bits (c.in-Ok.ensures.ok run.packets [] [] run.held))

pub returns-clause-value : goal.returns-clause-value
returns-clause-value c =
    let run = rw c.in-All.is at c.in_ok-left.ensures.run in
    let s = c.bits.new.self.list in
    rw c.from_vec.ensures (whole_value c.args.size c.args.piece.now c.in-All.left c.packet_room-bits.result c.user_bits.result _ c.in_ok-header.ensures.within c.packet_room-bits.ensures c.user_bits.ensures run c.bits_at.result c.bits_at.ensures c.in_ok-header.header c.in_ok-header.ensures.admitted s.packets.items s.numbers.items s.bits (c.in-Ok.ensures.ok run.packets [] [] run.held))

pub returns-clause-reads : goal.returns-clause-reads
returns-clause-reads c =
    let run = rw c.in-All.is at c.in_ok-left.ensures.run in
    let s = c.bits.new.self.list in
    rw c.from_vec.ensures (whole_reads c.args.size c.args.piece.now c.in-All.left c.packet_room-bits.result c.user_bits.result _ c.in_ok-header.ensures.within c.packet_room-bits.ensures c.user_bits.ensures run c.bits_at.result c.bits_at.ensures c.in_ok-header.header c.in_ok-header.ensures.admitted s.packets.items s.numbers.items s.bits (c.in-Ok.ensures.ok run.packets [] [] run.held) c.in_ok-header.ensures.bits c.in_ok-header.ensures.pad)
