use Rattle.std.proofs.Common.{◌≡◌, ℕ, ap, ◌∙◌, arith}
use Rattle.std.specs.Prelude.{Option, option_map}
use Rattle.std.specs.Option.{unwrap_or}
use Rattle.etcs_messages.specs.Lefts.{front_row, front_bits}
use Rattle.etcs_messages.proofs.RestHolds.{state}
use Rattle.etcs_messages.proofs.Sending.{begins_few, begins_bytes, front_begins, data_begins, rest_bytes}
use Rattle.etcs_messages.proofs.variables.MessageRest+H+B+H+Store.bytes_by.Goals as goal

pub overflow_add-result-in-Data : goal.overflow_add-result-in-Data
overflow_add-result-in-Data g c =
    let i = c.self.inside in
    let v = c.self.view_is in
    let s = state g.H.Packet.AnyPacket.WAY i.nid i.phase i.front.items i.packets.left i.padding i.packets.store i.stands in
    let few = begins_few _ _ _ (data_begins g.H.Store.PacketSink.holds s _ (rw (← v) at c.requires.held) c.in-Data.left c.in-Data.is) in
    let bits = rw (← v) at c.requires.bits in
    omega (arith, few, bits)

pub returns-in-Front : goal.returns-in-Front
returns-in-Front g c =
    let i = c.self.inside in
    let v = c.self.view_is in
    let way = g.H.Packet.AnyPacket.WAY in
    let s = state way i.nid i.phase i.front.items i.packets.left i.padding i.packets.store i.stands in
    let begins = front_begins g.H.Store.PacketSink.holds s _ (rw (← v) at c.requires.held) c.in-Front.field-0 c.in-Front.is in
    let front : c.unwrap_or-front.result ≡ unwrap_or (option_map front_bits (front_row way i.nid)) 0 = c.unwrap_or-front.ensures ∙ ap (λ (o : Option ℕ). unwrap_or o 0) (rw c.WAY.ensures at c.front_bits.ensures) in
    rw (← v) (λ len r e. rw (front, c.ahead.ensures) (begins_bytes _ _ len r _ begins e))

pub returns-in-Data : goal.returns-in-Data
returns-in-Data g c =
    let i = c.self.inside in
    let v = c.self.view_is in
    let s = state g.H.Packet.AnyPacket.WAY i.nid i.phase i.front.items i.packets.left i.padding i.packets.store i.stands in
    let begins = data_begins g.H.Store.PacketSink.holds s _ (rw (← v) at c.requires.held) c.in-Data.left c.in-Data.is in
    let bits = rw (← v) at c.requires.bits in
    rw (← v) (λ len r e. rw bits (begins_bytes _ _ len r _ begins e))

pub returns-in_default : goal.returns-in_default
returns-in_default g c =
    let i = c.self.inside in
    let v = c.self.view_is in
    let s = state g.H.Packet.AnyPacket.WAY i.nid i.phase i.front.items i.packets.left i.padding i.packets.store i.stands in
    let other = c.in_default in
    let bits = rw (← v) at c.requires.bits in
    rw (← v) (λ len r e. rw bits (rest_bytes g.H.Store.PacketSink.holds s _ (rw (← v) at c.requires.held) other.not-Front other.not-Packets other.not-Padding other.not-Data len r e))
