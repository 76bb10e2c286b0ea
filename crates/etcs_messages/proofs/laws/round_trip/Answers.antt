use Rattle.std.specs.Prelude.{IfSome, IfNone}
use Rattle.etcs_bits.specs.Bits.{bits}
use Rattle.etcs_vars.specs.Reading.{NoneYet}
use Rattle.etcs_sequence.specs.Firsts.{IsFirst}
use Rattle.etcs_messages.specs.Messages.{MessageReads, MessageLanguage, IsMessage, message_value}
use Rattle.etcs_messages.proofs.RoundTrips.{spelled_first, read_again, some_again}
use Rattle.etcs_messages.proofs.laws.round_trip.Goals as goal

pub unreachable-requires : goal.unreachable-requires
unreachable-requires g c =
    let way = g.H.Packet.AnyPacket.WAY in
    let head = g.H.Head.head in
    let own = g.B.Own.own in
    let form = g.H.Packet.AnyPacket.form in
    let m = c.args.message.now in
    let bytes = c.as_slice.result.now in
    let spells = spelled_first way head own form m c.new-bytes.result.items c.encode.new.out.items bytes c.new-bytes.ensures.items c.in_ok-encode.ensures.ok c.as_slice.ensures.value in
    let none : IfNone c.in_ok-again.field-0 (NoneYet (MessageLanguage way) (bits bytes)) = c.in_ok-again.ensures.none in
    some_again way head own form m bytes spells (rw c.in-None.is at none)

pub returns : goal.returns
returns g c =
    let way = g.H.Packet.AnyPacket.WAY in
    let head = g.H.Head.head in
    let own = g.B.Own.own in
    let form = g.H.Packet.AnyPacket.form in
    let m = c.args.message.now in
    let bytes = c.as_slice.result.now in
    let spells = spelled_first way head own form m c.new-bytes.result.items c.encode.new.out.items bytes c.new-bytes.ensures.items c.in_ok-encode.ensures.ok c.as_slice.ensures.value in
    let first : IfSome c.in_ok-again.field-0 (λ f. IsFirst (MessageReads way) (message_value way head own form) (IsMessage way head own form) bytes f.0 f.1) = c.in_ok-again.ensures.some in
    read_again way head own form m bytes spells g.met.H.Head.laws g.met.B.Own.laws g.met.H.Packet.AnyPacket.one c.in-Some.again c.in-Some.field-0-1 c.readable.ensures.value (rw c.in-Some.is at first)
