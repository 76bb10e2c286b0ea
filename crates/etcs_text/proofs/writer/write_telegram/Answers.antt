use Rattle.std.proofs.Common.{◌++◌, ◌∙◌, ap, map}
use Rattle.etcs_packets.specs.PacketValues.{packet_value}
use Rattle.etcs_text.specs.Entries.{of_telegram}
use Rattle.etcs_text.proofs.WrittenItems.{sure_ok}
use Rattle.etcs_text.proofs.writer.write_telegram.Goals as goal

pub returns-clause-written : goal.returns-clause-written
returns-clause-written g c =
    sure_ok c.telegram.result (c.telegram.ensures.sure tt) c.telegram.ensures.written
    (λ (vs, fill, (given, after), is).
    is ∙ (λ i. g.W.Page.PacketPage.text c.args.page.now ++ g.W.ItemWriter.written c.args.writer.now (of_telegram (record { size = c.size.ensures i; header = c.header.ensures i; packets = (given ∙ ap (map packet_value) c.packets.ensures) i; fill = (after ∙ c.fill.ensures) i }))))
