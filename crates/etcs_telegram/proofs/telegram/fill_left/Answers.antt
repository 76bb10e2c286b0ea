use Rattle.std.proofs.Common.{rules, ◌-◌, ◌≤◌, ap, arith}
use Rattle.etcs_telegram.proofs.Filling.{room_closed, fill_some, fill_none}
use Rattle.etcs_telegram.proofs.telegram.fill_left.Goals as goal

pub overflow_sub-packet_room : goal.overflow_sub-packet_room
overflow_sub-packet_room c =
    let least : 8 ≤ c.packet_room.result = omega (arith, room_closed c.args.size, c.packet_room.ensures) in
    search rules

pub returns-clause-left : goal.returns-clause-left
returns-clause-left c = fill_some c.args.size c.args.packets.now _ (ap (λ k. k - 8) c.packet_room.ensures) c.room_left.result c.room_left.ensures.left

pub returns-clause-none : goal.returns-clause-none
returns-clause-none c = fill_none c.args.size c.args.packets.now _ (ap (λ k. k - 8) c.packet_room.ensures) c.room_left.result c.room_left.ensures.none
