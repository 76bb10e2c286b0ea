use Rattle.std.proofs.Common.{◌≡◌, sym, ap, subst, ◌∙◌}
use Rattle.etcs_vars.specs.Reading.{spelled}
use Rattle.etcs_vars.specs.WordSinks.{and_bits}
use Rattle.etcs_messages.specs.declared.message.Content.{Content}
use Rattle.etcs_messages.specs.declared.message.Content.TheVariants as content
use Rattle.etcs_messages.specs.Messages.{IsTyped, IsMessage}
use Rattle.etcs_messages.specs.Readings.{bytes_of, message_reading, nid_of_message}
use Rattle.etcs_messages.proofs.Writing.{front_put, typed_put, kept_put}
use Rattle.etcs_messages.proofs.encode.append_message.Goals as goal

pub returns-in-Typed : goal.returns-in-Typed
returns-in-Typed g c =
    let t = c.in-Typed in
    let out = c.args.out.now in
    let is : c.args.message.now ≡ content.Typed t.head t.body t.packets t.padding = sym c.message.view_is ∙ t.is in
    let typed : IsTyped g.H.Packet.AnyPacket.WAY g.H.Head.head g.B.Own.own g.H.Packet.AnyPacket.form t.head t.body t.packets t.padding = subst (IsMessage g.H.Packet.AnyPacket.WAY g.H.Head.head g.B.Own.own g.H.Packet.AnyPacket.form) t.is c.message.invariant.0 in
    let first = front_put c.from.result c.args.bytes (g.B.Own.own.nid t.body) (bytes_of g.H.Packet.AnyPacket.WAY g.B.Own.own g.H.Packet.AnyPacket.form (content.Typed t.head t.body t.packets t.padding)) out c.put.new.self c.requires.small (c.from.ensures ∙ c.nid.ensures ∙ ap (nid_of_message g.B.Own.own) is) (c.requires.bytes ∙ ap (bytes_of g.H.Packet.AnyPacket.WAY g.B.Own.own g.H.Packet.AnyPacket.form) is) c.put.ensures in
    subst (λ (m : Content _ _ _). c.fill_up.new.self ≡ and_bits out (spelled (message_reading g.H.Packet.AnyPacket.WAY g.H.Head.head g.B.Own.own g.H.Packet.AnyPacket.form m))) (sym is)
    (typed_put g.H.Packet.AnyPacket.WAY g.H.Head.head g.B.Own.own g.H.Packet.AnyPacket.form g.met.H.Head.laws g.met.B.Own.laws t.head t.body t.packets t.padding out c.put.new.self c.append_variables.new.out c.append_variables-in-Typed.new.out c.append_all.new.out c.fill_up.new.self typed c.requires.none first c.append_variables.ensures c.append_variables-in-Typed.ensures (rw c.as_slice.ensures at c.append_all.ensures) (rw c.from-in-Typed.ensures at c.fill_up.ensures))

pub returns-in-Kept : goal.returns-in-Kept
returns-in-Kept g c =
    let t = c.in-Kept in
    let out = c.args.out.now in
    let is : c.args.message.now ≡ content.Kept t.nid t.bits = sym c.message.view_is ∙ t.is in
    let first = front_put c.from.result c.args.bytes t.nid _ out c.put.new.self c.requires.small (c.from.ensures ∙ c.nid.ensures ∙ ap (nid_of_message g.B.Own.own) is) (c.requires.bytes ∙ ap (bytes_of g.H.Packet.AnyPacket.WAY g.B.Own.own g.H.Packet.AnyPacket.form) is) c.put.ensures in
    subst (λ (m : Content _ _ _). c.put_slice.new.self ≡ and_bits out (spelled (message_reading g.H.Packet.AnyPacket.WAY g.H.Head.head g.B.Own.own g.H.Packet.AnyPacket.form m))) (sym is)
    (kept_put g.H.Packet.AnyPacket.WAY g.H.Head.head g.B.Own.own g.H.Packet.AnyPacket.form t.nid t.bits out c.put.new.self c.put_slice.new.self first (rw c.as_slice-in-Kept.ensures at c.put_slice.ensures))
