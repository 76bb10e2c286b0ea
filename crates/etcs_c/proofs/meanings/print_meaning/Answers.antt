use Rattle.std.proofs.Common.{◌∙◌, inl}
use Rattle.etcs_c.specs.Meanings.{IsMeaning}
use Rattle.etcs_c.proofs.Delivering.{text_said}
use Rattle.etcs_c.proofs.meanings.print_meaning.Goals as goal

pub returns-in-Some : goal.returns-in-Some
returns-in-Some c =
    let x = c.in-Some.var in
    let said = text_said (IsMeaning x c.args.asked.number) (λ v. v.items) c.args.out.now c.deliver.new.out c.deliver.result c.deliver.new.answer c.meaning_of.result c.meaning_of.ensures c.deliver.ensures.writes in
    inl (x, c.in-Some.ensures.some, c.deliver.ensures.var ∙ c.name_field-answer.ensures, said)
