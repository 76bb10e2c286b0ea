use Rattle.std.proofs.Common.{◌∙◌}
use Rattle.etcs_messages.specs.Messages.{message_value}
use Rattle.etcs_messages.specs.Readings.{message_reading}
use Rattle.etcs_text.proofs.TextLengths.{whole_message}
use Rattle.etcs_text.proofs.messages.message_bits.Goals as goal

pub returns : goal.returns
returns g c =
    let m = c.args.message.now in
    let whole = whole_message g.H.Packet.AnyPacket.WAY (message_value g.H.Packet.AnyPacket.WAY g.H.Head.head g.B.Own.own g.H.Packet.AnyPacket.form m) (message_reading g.H.Packet.AnyPacket.WAY g.H.Head.head g.B.Own.own g.H.Packet.AnyPacket.form m) c.reads.ensures in
    c.bit_len.ensures ∙ whole.2
