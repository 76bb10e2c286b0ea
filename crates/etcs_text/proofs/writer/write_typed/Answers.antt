use Rattle.std.proofs.Common.{◌++◌, ◌∙◌, ap, map, refl, sym}
use Rattle.etcs_messages.proofs.Padding.{message_cut, no_bits, some_bits}
use Rattle.etcs_messages.specs.Messages.{MessageValue, message_value, typed_message, values_of}
use Rattle.etcs_text.specs.Entries.{of_message}
use Rattle.etcs_text.specs.Messages.{message_bits}
use Rattle.etcs_text.proofs.WrittenItems.{sure_ok, typed_value}
use Rattle.etcs_text.proofs.writer.write_typed.Goals as goal

pub unreachable-requires : goal.unreachable-requires
unreachable-requires g c =
    no_bits _ (sym c.in_default.is ∙ c.new.ensures ∙ message_cut g.H.Packet.AnyPacket.WAY g.B.Own.own g.H.Packet.AnyPacket.form c.args.message.now _ c.padding-count.result.0 c.padding-count.result.1 c.padding-count.ensures.count c.padding-count.ensures.number refl)

pub returns-clause-written : goal.returns-clause-written
returns-clause-written g c =
    let way = g.H.Packet.AnyPacket.WAY in
    let m = c.args.message.now in
    let cut = some_bits c.in-Some.after _ (sym c.in-Some.is ∙ c.new.ensures ∙ message_cut way g.B.Own.own g.H.Packet.AnyPacket.form m _ c.padding-count.result.0 c.padding-count.result.1 c.padding-count.ensures.count c.padding-count.ensures.number refl) in
    let sent = g.met.H.Head.laws.is_sent c.args.head.now in
    let own = g.met.B.Own.laws.is_sent c.args.body.now in
    let value = typed_value way g.H.Head.head g.B.Own.own g.H.Packet.AnyPacket.form m c.args.head.now c.args.body.now c.requires.head c.requires.body in
    sure_ok c.typed.result (c.typed.ensures.sure tt) c.typed.ensures.written
    (λ (vs, padding, (given, after), is).
    let packets = given ∙ ap (values_of g.H.Packet.AnyPacket.form) (c.given-packets.ensures.packets ∙ c.packets.ensures) in
    let bits = after ∙ c.given-packets.ensures.after ∙ cut in
    let same = (λ i. typed_message (g.B.Own.own.nid c.args.body.now) (sent i) (own i) (packets i) (bits i)) ∙ value in
    is (c.message_bytes.ensures.bits ∙ sym (ap (λ (v : MessageValue). message_bits way v) same))
    ∙ ap (λ (v : MessageValue). g.W.Page.PacketPage.text c.args.page.now ++ g.W.ItemWriter.written c.args.writer.now (of_message way v)) same)
