use Rattle.std.proofs.Common.{◌++◌, ◌∙◌, ap, sym}
use Rattle.etcs_messages.specs.Messages.{MessageValue}
use Rattle.etcs_text.specs.Entries.{of_message}
use Rattle.etcs_text.specs.Messages.{message_bits}
use Rattle.etcs_text.proofs.WrittenItems.{kept_value}
use Rattle.etcs_text.proofs.writer.write_kept.Goals as goal

pub returns-clause-written : goal.returns-clause-written
returns-clause-written g c =
    let way = g.H.Packet.AnyPacket.WAY in
    let value = kept_value way g.H.Head.head g.B.Own.own g.H.Packet.AnyPacket.form c.args.message.now c.args.bits.now c.requires in
    let written = rw (c.WAY.ensures, c.nid.ensures) at c.in_ok-kept.ensures.written in
    written (c.message_bytes-bytes.ensures.bits ∙ sym (ap (λ (v : MessageValue). message_bits way v) value))
    ∙ ap (λ (v : MessageValue). g.W.Page.PacketPage.text c.args.page.now ++ g.W.ItemWriter.written c.args.writer.now (of_message way v)) value
