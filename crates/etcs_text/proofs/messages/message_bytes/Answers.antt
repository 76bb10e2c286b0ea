use Rattle.std.proofs.Common.{arith}
use Rattle.etcs_messages.specs.Messages.{message_value}
use Rattle.etcs_messages.specs.Readings.{message_reading}
use Rattle.etcs_text.proofs.TextLengths.{whole_message}
use Rattle.etcs_text.proofs.messages.message_bytes.Goals as goal

pub returns-clause-small : goal.returns-clause-small
returns-clause-small g c =
    let m = c.args.message.now in
    let whole = whole_message g.H.Packet.AnyPacket.WAY (message_value g.H.Packet.AnyPacket.WAY g.H.Head.head g.B.Own.own g.H.Packet.AnyPacket.form m) (message_reading g.H.Packet.AnyPacket.WAY g.H.Head.head g.B.Own.own g.H.Packet.AnyPacket.form m) c.reads.ensures in
    omega (arith, c.bit_len.ensures, whole.0, whole.2)

pub returns-clause-bits : goal.returns-clause-bits
returns-clause-bits g c =
    let m = c.args.message.now in
    let whole = whole_message g.H.Packet.AnyPacket.WAY (message_value g.H.Packet.AnyPacket.WAY g.H.Head.head g.B.Own.own g.H.Packet.AnyPacket.form m) (message_reading g.H.Packet.AnyPacket.WAY g.H.Head.head g.B.Own.own g.H.Packet.AnyPacket.form m) c.reads.ensures in
    omega (arith, c.bit_len.ensures, whole.1, whole.2)
