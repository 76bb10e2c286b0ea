use Rattle.etcs_bits.specs.Bits.{bits}
use Rattle.etcs_messages.proofs.Bytes.{some_message}
use Rattle.etcs_messages.proofs.Parts.{message_part}
use Rattle.etcs_messages.proofs.whole.resume.Goals as goal

pub pass_front-requires-clause-goes : goal.pass_front-requires-clause-goes
pass_front-requires-clause-goes g c =
    let (r, some) = some_message g.H.Packet.AnyPacket.WAY in
    (r, (c.new-rest.ensures.left r).1 some)

pub returns : goal.returns
returns g c =
    let a = c.args in
    let (run, some, may) = c.requires.run in
    let xs = bits a.piece.now in
    let m = c.pass_front.new.rest in
    let room = c.is_at_packets.ensures.room c.if-not-is_at_packets.false in
    let new = c.new-rest in
    message_part g.H.Packet.AnyPacket.WAY g.H.Store.PacketSink.holds xs new.result m c.resume.new.self a.front a.end a.left new.ensures.way new.ensures.left new.ensures.holds c.requires.order c.requires.most room some (c.pass_front.ensures c.if-not-pass_front.false) (c.resume.ensures xs a.front (rw room c.requires.run))
