use Rattle.std.proofs.Common.{◌≡◌, ◌%◌, false, sym, ◌∙◌, arith}
use Rattle.std.specs.List.{list_any}
use Rattle.etcs_messages.specs.Messages.{all_bits, is_marker}
use Rattle.etcs_messages.proofs.Sizes.{room_left, few_bits, many_bits, padded_long, padded_bad, padded_good}
use Rattle.etcs_messages.proofs.Ways.{header_few}
use Rattle.etcs_messages.proofs.Fronts.{row_short}
use Rattle.etcs_messages.proofs.message.check_typed.Goals as goal

pub bits_left-requires : goal.bits_left-requires
bits_left-requires g c =
    let own = c.in_ok-check_front.ensures.own in
    let few = row_short g.H.Packet.AnyPacket.WAY (g.B.Own.own.nid c.args.body) (g.B.Own.own.reading c.args.body) (g.met.B.Own.laws.reads c.args.body own) in
    let head = header_few g.H.Packet.AnyPacket.WAY in
    omega (arith, few, head)

pub returns-in_default-clause-fault : goal.returns-in_default-clause-fault
returns-in_default-clause-fault g c =
    let a = c.args in
    let none : list_any (λ p. is_marker g.H.Packet.AnyPacket.WAY (g.H.Packet.AnyPacket.form p).value) a.packets.now ≡ false = sym c.has_marker.ensures ∙ c.if-has_marker.false in
    padded_long g.H.Packet.AnyPacket.WAY g.H.Head.head g.B.Own.own g.H.Packet.AnyPacket.form a.head a.body a.packets.now a.padding c.in_ok-check_front.ensures.ok none c.in_default.ensures.none

pub returns-then-padding-left-gt0-clause-fault : goal.returns-then-padding-left-gt0-clause-fault
returns-then-padding-left-gt0-clause-fault g c =
    let a = c.args in
    let none : list_any (λ p. is_marker g.H.Packet.AnyPacket.WAY (g.H.Packet.AnyPacket.form p).value) a.packets.now ≡ false = sym c.has_marker.ensures ∙ c.if-has_marker.false in
    let left = c.in-Some.ensures.left in
    let room = room_left (all_bits g.H.Packet.AnyPacket.WAY g.B.Own.own g.H.Packet.AnyPacket.form a.body a.packets.now) c.in-Some.left left in
    padded_bad g.H.Packet.AnyPacket.WAY g.H.Head.head g.B.Own.own g.H.Packet.AnyPacket.form a.head a.body a.packets.now a.padding c.in_ok-check_front.ensures.ok none (omega (arith, left)) (rw room (many_bits a.padding (c.in-Some.left % 8) c.if-padding-left-gt0.true))

pub returns-clause-ok : goal.returns-clause-ok
returns-clause-ok g c =
    let a = c.args in
    let none : list_any (λ p. is_marker g.H.Packet.AnyPacket.WAY (g.H.Packet.AnyPacket.form p).value) a.packets.now ≡ false = sym c.has_marker.ensures ∙ c.if-has_marker.false in
    let left = c.in-Some.ensures.left in
    let room = room_left (all_bits g.H.Packet.AnyPacket.WAY g.B.Own.own g.H.Packet.AnyPacket.form a.body a.packets.now) c.in-Some.left left in
    record {
      no_fault = padded_good g.H.Packet.AnyPacket.WAY g.H.Head.head g.B.Own.own g.H.Packet.AnyPacket.form a.head a.body a.packets.now a.padding c.in_ok-check_front.ensures.ok none (omega (arith, left)) (rw room (few_bits a.padding (c.in-Some.left % 8) c.if-padding-left-gt0.false));
      head_types = c.check_front.ensures.types;
      own = c.in_ok-check_front.ensures.own;
      made = c.in-Some.ensures.made;
      packets = c.in-Some.ensures.packets;
    }
