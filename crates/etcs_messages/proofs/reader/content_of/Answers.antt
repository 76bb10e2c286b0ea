use Rattle.std.proofs.Common.{◌≡◌, List, length, refl, sym, subst}
use Rattle.std.specs.Prelude.{Option}
use Rattle.etcs_vars.specs.declared.var.Var.{Var}
use Rattle.etcs_messages.specs.declared.message.Content.TheVariants.{Typed, Kept}
use Rattle.etcs_messages.specs.Lefts.{front_row}
use Rattle.etcs_messages.specs.Readings.{content_by}
use Rattle.etcs_messages.proofs.Fronts.{front_there, no_front}
use Rattle.etcs_messages.proofs.reader.content_of.Goals as goal

pub front_by-head-requires : goal.front_by-head-requires
front_by-head-requires g c =
    let (vars, typed, count) = front_there length (front_row g.H.Packet.AnyPacket.WAY c.args.nid) c.in-Some.field-0 (rw (c.in-Some.is, c.WAY.ensures) at c.front_count.ensures) in
    let held = c.requires vars typed in
    record { there = held.0; head = held.1; own = held.2 }

pub returns-in-Some : goal.returns-in-Some
returns-in-Some g c =
    let (vars, typed, count) = front_there length (front_row g.H.Packet.AnyPacket.WAY c.args.nid) c.in-Some.field-0 (rw (c.in-Some.is, c.WAY.ensures) at c.front_count.ensures) in
    subst (λ (o : Option (List Var)). Typed c.front_by-head.result.0 c.front_by-head.result.1 c.from_vec.result c.args.padding ≡ content_by g.H.Packet.AnyPacket.WAY g.H.Head.head g.B.Own.own o c.args.nid c.args.front.now c.args.store.packets.items c.args.store.bits c.args.padding) (sym typed) (rw (c.front_by-head.ensures.head, c.front_by-head.ensures.own, c.from_vec.ensures) refl)

pub returns-in-None : goal.returns-in-None
returns-in-None g c =
    let untyped = no_front length (front_row g.H.Packet.AnyPacket.WAY c.args.nid) (rw (c.in-None.is, c.WAY.ensures) at c.front_count.ensures) in
    subst (λ (o : Option (List Var)). Kept c.args.nid c.args.store.bits ≡ content_by g.H.Packet.AnyPacket.WAY g.H.Head.head g.B.Own.own o c.args.nid c.args.front.now c.args.store.packets.items c.args.store.bits c.args.padding) (sym untyped) refl
