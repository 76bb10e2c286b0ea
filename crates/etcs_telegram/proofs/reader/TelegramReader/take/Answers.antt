use Rattle.std.proofs.Common.{ap, ◌∙◌}
use Rattle.etcs_telegram.specs.Readers.{ReaderValue}
use Rattle.etcs_telegram.proofs.reader.TelegramReader.take.Goals as goal

pub returns-in-Err : goal.returns-in-Err
returns-in-Err c =
    let e = c.in-Err.ensures in
    (e.0 ∙ c.self.view_is, λ t f. e.1 t (ap (λ (v : ReaderValue). v.progress) c.self.view_is ∙ f))
