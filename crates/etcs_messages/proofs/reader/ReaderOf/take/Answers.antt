use Rattle.std.proofs.Common.{ap, ◌∙◌}
use Rattle.etcs_messages.proofs.reader.ReaderOf.take.Goals as goal

pub returns-in-Err : goal.returns-in-Err
returns-in-Err g c =
    let e = c.in-Err.ensures in
    (ap (λ r. r.progress) e.0 ∙ c.self.view_is, λ t f. e.1 t (c.self.view_is ∙ f))
