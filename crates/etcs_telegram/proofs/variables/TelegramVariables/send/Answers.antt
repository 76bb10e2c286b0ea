use Rattle.std.proofs.Common.{◌≡◌, ◌++◌, append_assoc, false, map, ◌∙◌}
use Rattle.std.specs.Prelude.{replicate}
use Rattle.etcs_vars.specs.declared.var.Var.TheVariants.{FILL, PAD}
use Rattle.etcs_vars.specs.Reading.{kept}
use Rattle.etcs_packets.specs.PacketValues.{packet_value}
use Rattle.etcs_sequence.proofs.Sent.{two_sent_ok}
use Rattle.etcs_telegram.specs.Phases.{beyond_header}
use Rattle.etcs_telegram.specs.Telegrams.{closed_reading, header_reading, pad_bits, telegram_value}
use Rattle.etcs_telegram.specs.Writing.{telegram_reading}
use Rattle.etcs_telegram.proofs.variables.TelegramVariables.send.Goals as goal

pub returns-clause-ok : goal.returns-clause-ok
returns-clause-ok g c =
    let t = c.args.self.now in
    let beyond = rw (c.packets.ensures, c.fill.ensures, c.pad_bits.ensures, c.size.ensures) at c.send_closed.ensures.ok in
    let header = header_reading t.header in
    let packets = closed_reading (map packet_value t.packets) in
    let fill = kept FILL t.fill in
    let zeros = kept PAD (replicate (pad_bits t.size) false) in
    let is : telegram_reading (telegram_value t) ≡ header ++ beyond_header packets t.fill (pad_bits t.size) = append_assoc (header ++ packets) fill zeros ∙ append_assoc header packets (fill ++ zeros) in
    two_sent_ok g.S.VarSink.with g.met.S.VarSink.with_both c.send_closed.result c.args.out.now c.send.new.out c.send_closed.new.out
    header (beyond_header packets t.fill (pad_bits t.size)) (telegram_reading (telegram_value t))
    (rw c.header.ensures at c.in_ok-send.ensures.ok) beyond is
