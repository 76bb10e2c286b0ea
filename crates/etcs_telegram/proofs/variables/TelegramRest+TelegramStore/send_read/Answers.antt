use Rattle.std.proofs.Common.{arith}
use Rattle.etcs_telegram.proofs.RestHolds.{state}
use Rattle.etcs_telegram.proofs.Sending.{far_long}
use Rattle.etcs_telegram.proofs.variables.TelegramRest+TelegramStore.send_read.Goals as goal

pub overflow_sub-bits : goal.overflow_sub-bits
overflow_sub-bits g c =
    let i = c.self.inside in
    let v = c.self.view_is in
    let long = far_long (state i.size i.phase i.header.items i.packets.left i.packets.store i.stands) c.in-Packets.is in
    let bits = rw (← v) at c.requires.bits in
    omega (arith, bits, long)

pub send-requires-clause-taken : goal.send-requires-clause-taken
send-requires-clause-taken g c =
    let i = c.self.inside in
    let v = c.self.view_is in
    let long = far_long (state i.size i.phase i.header.items i.packets.left i.packets.store i.stands) c.in-Packets.is in
    let bits = rw (← v) at c.requires.bits in
    omega (arith, bits, long)
