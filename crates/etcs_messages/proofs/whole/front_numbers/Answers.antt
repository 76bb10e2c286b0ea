use Rattle.std.proofs.Common.{length, sym, subst}
use Rattle.std.specs.Prelude.{◌≤◌}
use Rattle.etcs_bits.specs.Bits.{bits}
use Rattle.etcs_bits.specs.SliceWalker.{SliceWalk}
use Rattle.etcs_messages.proofs.FrontsAtOnce.{head_passed, head_room, own_room, front_passed}
use Rattle.etcs_messages.proofs.whole.front_numbers.Goals as goal

pub take_items-requires-clause-room : goal.take_items-requires-clause-room
take_items-requires-clause-room c = head_room c.args.way c.new-numbers.result.items c.head_row.result.items.now c.new-numbers.ensures c.head_row.ensures

pub take_items-requires-clause-place : goal.take_items-requires-clause-place
take_items-requires-clause-place c = subst (λ (w : SliceWalk). w.place ≤ length w.bits) (sym c.new-walker.ensures) c.requires.inside

pub take_items-requires-2-clause-room : goal.take_items-requires-2-clause-room
take_items-requires-2-clause-room c =
    (own_room c.args.way c.args.nid c.in_ok-row.row.items.now c.new-numbers.result.items c.take_items.new.numbers.items c.new-walker.result c.take_items.new.walker.place c.in_ok-row.ensures c.new-numbers.ensures (head_passed c.args.way c.head_row.result.items.now c.new-walker.result c.new-numbers.result.items c.take_items.new.numbers.items c.take_items.new.walker.place c.head_row.ensures c.in_ok-take_items.ensures.front)).0

pub take_items-requires-2-clause-place : goal.take_items-requires-2-clause-place
take_items-requires-2-clause-place c =
    rw c.take_items.ensures.bits (own_room c.args.way c.args.nid c.in_ok-row.row.items.now c.new-numbers.result.items c.take_items.new.numbers.items c.new-walker.result c.take_items.new.walker.place c.in_ok-row.ensures c.new-numbers.ensures (head_passed c.args.way c.head_row.result.items.now c.new-walker.result c.new-numbers.result.items c.take_items.new.numbers.items c.take_items.new.walker.place c.head_row.ensures c.in_ok-take_items.ensures.front)).1

pub returns : goal.returns
returns c =
    let head = head_passed c.args.way c.head_row.result.items.now c.new-walker.result c.new-numbers.result.items c.take_items.new.numbers.items c.take_items.new.walker.place c.head_row.ensures c.in_ok-take_items.ensures.front in
    front_passed c.args.way c.args.nid c.in_ok-row.row.items.now (bits c.args.piece.now) c.new-walker.result c.take_items.new.walker c.new-numbers.result.items c.take_items.new.numbers.items c.take_items-2.new.numbers.items c.take_items-2.new.walker.place c.in_ok-row.ensures c.new-walker.ensures c.new-numbers.ensures head c.take_items.ensures.bits c.in_ok-take_items-2.ensures.front
