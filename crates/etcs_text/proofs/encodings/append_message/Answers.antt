use Rattle.etcs_messages.specs.Messages.{message_value}
use Rattle.etcs_text.specs.Entries.{of_message}
use Rattle.etcs_text.proofs.Encoding.{appended_ok}
use Rattle.etcs_text.proofs.encodings.append_message.Goals as goal

pub returns-clause-ok : goal.returns-clause-ok
returns-clause-ok g c =
    appended_ok c.encode-appended.result (of_message g.H.Packet.AnyPacket.WAY (message_value g.H.Packet.AnyPacket.WAY g.H.Head.head g.B.Own.own g.H.Packet.AnyPacket.form c.args.message.now)) c.args.out.now.items c.encode-appended.new.out.items (rw c.as_slice.ensures.value at c.are_bytes.ensures) (rw c.as_slice-2.ensures.value at c.are_bytes-2.ensures) c.encode-appended.ensures.ok
