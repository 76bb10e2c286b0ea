use Rattle.std.proofs.Common.{ℕ, refl, subst}
use Rattle.std.specs.Prelude.{IsTrue, ◌↔◌}
use Rattle.etcs_vars.specs.Vars.{inside}
use Rattle.etcs_tables.specs.declared.row.Way.{Way}
use Rattle.etcs_rows.specs.Messages.{MessageLengthFits}
use Rattle.etcs_messages.proofs.LengthFits.{length_fits}
use Rattle.etcs_messages.proofs.Begins.{begins_number, begins_length, begins_front, begins_packets, begins_padding, begins_data}
use Rattle.etcs_messages.proofs.RestHolds.{state, phase_is}
use Rattle.etcs_messages.proofs.rest.MessageRestRest.begins.Goals as goal

pub returns-in-Number : goal.returns-in-Number
returns-in-Number g c =
    let phase = phase_is c.self.view_is c.in-Number.is in
    (λ _. begins_number c.args.self.now c.args.var c.args.rest c.args.number c.requires.next phase c.requires.rest c.requires.fits, λ _. refl)

pub returns-in-Length : goal.returns-in-Length
returns-in-Length g c =
    let i = c.self.inside in
    let v = c.self.view_is in
    let s = state g.H.Packet.AnyPacket.WAY i.nid i.phase i.front.items i.packets.left i.padding i.packets.store i.stands in
    let way = g.H.Packet.AnyPacket.WAY in
    let fits : (n : ℕ) → IsTrue (inside c.message_lengths.result.now n) ↔ MessageLengthFits way i.nid n = subst (λ (w : Way). (n : ℕ) → IsTrue (inside c.message_lengths.result.now n) ↔ MessageLengthFits w i.nid n) c.WAY.ensures c.message_lengths.ensures.fits in
    rw (← v, c.begins.ensures) (begins_length s c.args.var c.args.rest c.args.number (rw (← v) at c.requires.next) c.message_lengths.result.now c.in-Length.is c.message_lengths.ensures.ordered
    (λ n. (λ h. (length_fits way i.nid n).0 ((fits n).0 h), λ k. (fits n).1 ((length_fits way i.nid n).1 k))))

pub returns-in-Front : goal.returns-in-Front
returns-in-Front g c =
    let phase = phase_is c.self.view_is c.in-Front.is in
    rw (c.begins-in-Front.ensures, c.ranges-in-Front.ensures) (begins_front c.args.self.now c.args.var c.args.rest c.args.number c.requires.next c.in-Front.field-0 phase c.requires.rest c.requires.fits c.requires.goes)

pub returns-in-Packets : goal.returns-in-Packets
returns-in-Packets g c =
    let two = rw (← c.self.view_is) at (begins_packets c.args.self.now c.args.var c.args.rest c.args.number c.requires.next (phase_is c.self.view_is c.in-Packets.is)) in
    rw (← c.self.view_is) (λ t. two.0 (c.begins-in-Packets.ensures.0 t), λ t. c.begins-in-Packets.ensures.1 (two.1 t))

pub returns-in-Padding : goal.returns-in-Padding
returns-in-Padding g c =
    let phase = phase_is c.self.view_is c.in-Padding.is in
    (λ _. begins_padding c.args.self.now c.args.var c.args.rest c.args.number c.requires.next c.in-Padding.field-0 phase c.requires.rest c.requires.fits, λ _. refl)

pub returns-in-Data : goal.returns-in-Data
returns-in-Data g c =
    let phase = phase_is c.self.view_is c.in-Data.is in
    (λ _. begins_data c.args.self.now c.args.var c.args.rest c.args.number c.requires.next c.in-Data.field-0 phase c.requires.rest c.requires.fits, λ _. refl)
