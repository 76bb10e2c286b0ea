use Rattle.std.proofs.Common.{rules, ℕ, ◌*◌, sym, ap, ◌∙◌}
use Rattle.etcs_vars.specs.Reading.{spelled}
use Rattle.etcs_vars.proofs.WordSinks.{fills}
use Rattle.etcs_messages.specs.Readings.{message_reading}
use Rattle.etcs_messages.proofs.encode.write_message.Goals as goal

pub returns : goal.returns
returns g c =
    let e = c.new-sink.ensures in
    let r = message_reading g.H.Packet.AnyPacket.WAY g.H.Head.head g.B.Own.own g.H.Packet.AnyPacket.form c.args.message.now in
    let f = fills c.args.out.now _ (spelled r) c.new-sink.result c.append_message.new.out e.bytes e.at e.word (c.readable.ensures.bytes ∙ ap (λ (k : ℕ). 8 * k) (sym c.requires)) c.append_message.ensures c.finish.ensures in
    search (rules, f.name, f.bits, e.lent)
