use Rattle.std.proofs.Common.{◌-◌, ap, ◌∙◌, length, arith}
use Rattle.etcs_vars.specs.Reading.{Reading, spelled}
use Rattle.etcs_tables.specs.MessageRows.{header_bits}
use Rattle.etcs_messages.proofs.Ways.{header_few}
use Rattle.etcs_messages.proofs.Fitting.{fit_some, fit_none}
use Rattle.etcs_messages.proofs.message.bits_left.Goals as goal

pub overflow_sub-header_bits : goal.overflow_sub-header_bits
overflow_sub-header_bits g c = let few = header_few g.H.Packet.AnyPacket.WAY in omega (arith, few, (c.header_bits.ensures ∙ ap header_bits c.WAY.ensures))

pub overflow_sub-header_bits-2 : goal.overflow_sub-header_bits-2
overflow_sub-header_bits-2 g c =
    let same = ap (λ (r : Reading). length (spelled r)) (g.met.B.Own.laws.is_sent c.args.body) in
    omega (arith, c.bits.ensures.bits, same, (c.header_bits.ensures ∙ ap header_bits c.WAY.ensures), c.requires)

pub returns-clause-left : goal.returns-clause-left
returns-clause-left g c =
    let same = ap (λ (r : Reading). length (spelled r)) (g.met.B.Own.laws.is_sent c.args.body) in
    fit_some g.H.Packet.AnyPacket.WAY g.B.Own.own g.H.Packet.AnyPacket.form c.args.body c.args.packets.now (8184 - c.header_bits.result - c.bits.result) (omega (arith, c.bits.ensures.bits, same, (c.header_bits.ensures ∙ ap header_bits c.WAY.ensures), c.requires)) c.room_after.result c.room_after.ensures.left

pub returns-clause-none : goal.returns-clause-none
returns-clause-none g c =
    let same = ap (λ (r : Reading). length (spelled r)) (g.met.B.Own.laws.is_sent c.args.body) in
    fit_none g.H.Packet.AnyPacket.WAY g.B.Own.own g.H.Packet.AnyPacket.form c.args.body c.args.packets.now (8184 - c.header_bits.result - c.bits.result) (omega (arith, c.bits.ensures.bits, same, (c.header_bits.ensures ∙ ap header_bits c.WAY.ensures), c.requires)) c.room_after.result c.room_after.ensures.none
