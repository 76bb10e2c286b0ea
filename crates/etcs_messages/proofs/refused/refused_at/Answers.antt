use Rattle.std.proofs.Common.{arith}
use Rattle.std.proofs.lemmas.List.{length-take-le}
use Rattle.etcs_messages.specs.Lefts.{Left}
use Rattle.etcs_messages.proofs.Bytes.{some_message}
use Rattle.etcs_messages.proofs.Refusing.{refused_in}
use Rattle.etcs_messages.proofs.refused.refused_at.Goals as goal

pub new-feeder-requires : goal.new-feeder-requires
new-feeder-requires g c =
    let (r, some) = some_message g.H.Packet.AnyPacket.WAY in
    (r, (c.counted.ensures r).1 some)

pub feed-requires : goal.feed-requires
feed-requires g c = omega (arith, c.new-feeder.ensures.count, c.in_ok-bytes.ensures.most, c.in_ok-bytes.ensures.within, length-take-le c.in_ok-bytes.bytes c.args.piece.now c.in_ok-bytes.ensures.within)

pub returns-in-Err-Refused : goal.returns-in-Err-Refused
returns-in-Err-Refused g c =
    let s = c.new-feeder.result.rest in
    let same = rw (← c.new-feeder.ensures.rest) at c.counted.ensures in
    let answer = c.in-Err-Refused.ensures.going c.new-feeder.ensures.stop in
    let (stop, is, n, place, h) = rw c.in-Err-Refused.field-0-is at answer in
    refused_in g.H.Packet.AnyPacket.WAY (Left s) same c.args.piece.now c.in_ok-bytes.bytes c.in-Err-Refused.bit n c.new-feeder.result.count c.in-Err-Refused.var c.new-feeder.result.part c.new-feeder.ensures.part c.new-feeder.ensures.count place h.refuses
