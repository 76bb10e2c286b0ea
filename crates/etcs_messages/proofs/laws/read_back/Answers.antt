use Rattle.std.proofs.Common.{arith}
use Rattle.std.specs.Prelude.{IfSome, IfNone}
use Rattle.std.proofs.lemmas.List.{length-take}
use Rattle.etcs_bits.specs.Bits.{bits}
use Rattle.etcs_vars.specs.Reading.{NoneYet}
use Rattle.etcs_sequence.specs.Firsts.{IsFirst}
use Rattle.etcs_sequence.proofs.RoundTrips.{first_in}
use Rattle.etcs_messages.specs.Messages.{MessageReads, MessageLanguage, IsMessage, message_value}
use Rattle.etcs_messages.proofs.laws.read_back.Given.{Over}
use Rattle.etcs_messages.proofs.laws.read_back.Goals as goal
use Rattle.etcs_messages.proofs.laws.read_back.Goals.{In-Some}

first_is : (g : Over) (c : In-Some g) → IsFirst (MessageReads g.H.Packet.AnyPacket.WAY) (message_value g.H.Packet.AnyPacket.WAY g.H.Head.head g.B.Own.own g.H.Packet.AnyPacket.form) (IsMessage g.H.Packet.AnyPacket.WAY g.H.Head.head g.B.Own.own g.H.Packet.AnyPacket.form) c.args.bytes.now c.in-Some.message c.in-Some.taken
first_is g c =
    let way = g.H.Packet.AnyPacket.WAY in
    let head = g.H.Head.head in
    let own = g.B.Own.own in
    let form = g.H.Packet.AnyPacket.form in
    let found : IfSome c.in_ok-message.field-0 (λ f. IsFirst (MessageReads way) (message_value way head own form) (IsMessage way head own form) c.args.bytes.now f.0 f.1) = c.in_ok-message.ensures.some in
    rw c.in-Some.is at found

pub slice_bounds-append_again-end : goal.slice_bounds-append_again-end
slice_bounds-append_again-end g c = let first = first_is g (goal.at.slice_bounds-append_again-end g c).In-Some in omega (arith, first.1, length-take c.in-Some.taken c.args.bytes.now)

pub append_again-requires : goal.append_again-requires
append_again-requires g c = let (is, less, r, reads, e) = first_is g (goal.at.append_again-requires g c).In-Some in (r, reads, e)

pub returns-in_ok-append_again-in-Some-clause-some : goal.returns-in_ok-append_again-in-Some-clause-some
returns-in_ok-append_again-in-Some-clause-some g c =
    let first = first_is g (goal.at.returns-in_ok-append_again-in-Some-clause-some g c).In-Some in
    (first.1, first_in (MessageReads g.H.Packet.AnyPacket.WAY) (message_value g.H.Packet.AnyPacket.WAY g.H.Head.head g.B.Own.own g.H.Packet.AnyPacket.form) (IsMessage g.H.Packet.AnyPacket.WAY g.H.Head.head g.B.Own.own g.H.Packet.AnyPacket.form) c.args.bytes.now c.in-Some.message c.in-Some.taken first)

pub returns-in-None-clause-none : goal.returns-in-None-clause-none
returns-in-None-clause-none g c =
    let none : IfNone c.in_ok-message.field-0 (NoneYet (MessageLanguage g.H.Packet.AnyPacket.WAY) (bits c.args.bytes.now)) = c.in_ok-message.ensures.none in
    rw c.in-None.is at none
