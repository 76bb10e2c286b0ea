use Rattle.std.proofs.Common.{ap, ◌∙◌, arith}
use Rattle.etcs_vars.specs.Reading.{spelled}
use Rattle.etcs_vars.proofs.WordSinks.{appended}
use Rattle.etcs_telegram.specs.Telegrams.{container_bytes, telegram_value}
use Rattle.etcs_telegram.specs.Writing.{telegram_reading}
use Rattle.etcs_telegram.proofs.Appending.{reading_length}
use Rattle.etcs_telegram.proofs.telegram.Telegram.encode.Goals as goal

pub returns-clause-ok : goal.returns-clause-ok
returns-clause-ok c =
    let t = telegram_value c.args.self.now in
    let r = telegram_reading t in
    let reads = c.write_telegram.ensures.reads in
    let size = c.container_bytes.ensures ∙ ap container_bytes c.size.ensures in
    let at = c.len-start.ensures in (
      r,
      reads,
      appended c.args.out.now.items c.resize.new.self.items c.deref_mut.result.now c.write_telegram.new.out c.len-start.result c.container_bytes.result _ c.resize.new.self.len (spelled r) (omega (arith, c.len-start.ensures, c.args.out.now.ok.0)) (c.in_ok-resize.ensures.items) c.deref_mut.ensures.value c.in_ok-resize.ensures.len (omega (arith, reading_length t reads, size)) c.write_telegram.ensures.bits,
    )
