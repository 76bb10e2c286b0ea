use Rattle.std.proofs.Common.{◌-◌, ap, not, refl, sym, ◌∙◌, arith}
use Rattle.etcs_bits.specs.Bits.{bits, part}
use Rattle.etcs_telegram.specs.Telegrams.{user_bits}
use Rattle.etcs_telegram.proofs.Encoding.{room_more, user_small}
use Rattle.etcs_telegram.proofs.WholeTelegram.{container_inside, found, seen_found}
use Rattle.etcs_telegram.proofs.whole.sees.Goals as goal

pub take_run-requires-clause-none : goal.take_run-requires-clause-none
take_run-requires-clause-none c = sym c.new-store.ensures

pub take_run-requires-clause-inside : goal.take_run-requires-clause-inside
take_run-requires-clause-inside c =
    let (h, is) = found c.front_of.result (c.is_none.ensures ∙ ap not c.if-is_none.false) in
    let long = container_inside c.args.size c.args.piece.now (rw is at c.front_of.ensures.within) in
    omega (arith, long, room_more c.args.size, c.packet_room.ensures)

pub take_run-requires-clause-room : goal.take_run-requires-clause-room
take_run-requires-clause-room c = omega (arith, room_more c.args.size, user_small c.args.size, c.packet_room.ensures)

pub returns-in-Some-All-clause-within : goal.returns-in-Some-All-clause-within
returns-in-Some-All-clause-within c =
    let (h, is) = found c.front_of.result (c.is_none.ensures ∙ ap not c.if-is_none.false) in
    λ _. rw is at c.front_of.ensures.within

pub returns-in-Some-All-clause-reads : goal.returns-in-Some-All-clause-reads
returns-in-Some-All-clause-reads c =
    let (h, is) = found c.front_of.result (c.is_none.ensures ∙ ap not c.if-is_none.false) in
    let xs = bits c.args.piece.now in
    let user = user_bits c.args.size in
    let left = c.in-Some-All.field-0-0 in
    let run = rw (c.in-Some-All.is, c.in-Some-All.field-0-is) at c.take_run.ensures.run in
    let there = seen_found c.args.size c.args.piece.now left c.packet_room.result user _ (rw is at c.front_of.ensures.within) c.packet_room.ensures refl run (part (user - left) left xs) refl h (rw is at c.front_of.ensures.admitted) (rw is at c.front_of.ensures.bits) (rw is at c.front_of.ensures.pad) in
    λ _. there
