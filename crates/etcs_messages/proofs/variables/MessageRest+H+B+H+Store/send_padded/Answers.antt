use Rattle.std.proofs.Common.{arith}
use Rattle.etcs_messages.proofs.variables.MessageRest+H+B+H+Store.send_padded.Goals as goal

pub send_padding-requires : goal.send_padding-requires
send_padding-requires g c =
    let left = rw (c.as_slice-packets.ensures.value, c.list.ensures) at c.in-Some.ensures.left in
    let room = rw (← c.self.view_is) at c.requires in
    omega (arith, left, room.1, room.2)
