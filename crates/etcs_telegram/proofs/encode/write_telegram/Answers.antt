use Rattle.std.proofs.Common.{rules, ℕ, ◌*◌, sym, ap, ◌∙◌}
use Rattle.etcs_vars.specs.Reading.{spelled}
use Rattle.etcs_vars.proofs.WordSinks.{fills}
use Rattle.etcs_telegram.specs.Telegrams.{telegram_value}
use Rattle.etcs_telegram.specs.Writing.{telegram_reading}
use Rattle.etcs_telegram.proofs.Appending.{reading_length}
use Rattle.etcs_telegram.proofs.encode.write_telegram.Goals as goal

pub returns-clause-bits : goal.returns-clause-bits
returns-clause-bits c =
    let t = telegram_value c.args.telegram.now in
    let e = c.new-sink.ensures in
    let f = fills c.args.out.now _ (spelled (telegram_reading t)) c.new-sink.result c.append_telegram.new.out e.bytes e.at e.word (reading_length t c.readable.ensures.reads ∙ ap (λ (k : ℕ). 8 * k) (sym c.requires)) c.append_telegram.ensures c.finish.ensures in
    search (rules, f.name, f.bits, e.lent)
