use Rattle.std.proofs.Common.{◌≡◌, [], ap, subst, ◌∙◌}
use Rattle.std.specs.Prelude.{IfSome}
use Rattle.etcs_sequence.specs.Progress.{reading, finished}
use Rattle.etcs_telegram.specs.Readers.{ReaderValue}
use Rattle.etcs_telegram.proofs.reader.TelegramReader.take_next.Goals as goal

pub returns-clause-some : goal.returns-clause-some
returns-clause-some c =
    subst (λ (v : ReaderValue). IfSome c.take_next.result (λ t. (v.progress ≡ finished t) × (c.take_next.new.self.progress ≡ reading []))) c.self.view_is c.take_next.ensures.some

pub returns-clause-none : goal.returns-clause-none
returns-clause-none c n =
    let e = c.take_next.ensures.none n in
    (e.0 ∙ c.self.view_is, λ t f. e.1 t (ap (λ (v : ReaderValue). v.progress) c.self.view_is ∙ f))

pub returns-clause-size : goal.returns-clause-size
returns-clause-size c = c.take_next.ensures.size ∙ ap (λ (v : ReaderValue). v.size) c.self.view_is
