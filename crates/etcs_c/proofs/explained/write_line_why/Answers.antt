use Rattle.std.proofs.Common.{◌∙◌, inl, inr, refl}
use Rattle.etcs_c.proofs.Refusals.{words_said}
use Rattle.etcs_c.proofs.explained.write_line_why.Goals as goal

pub returns-in-Ok : goal.returns-in-Ok
returns-in-Ok c = inl (_, c.in-Ok.ensures.ok, refl, refl, refl)

pub returns-in-Refused : goal.returns-in-Refused
returns-in-Refused c =
    let words = words_said c.args.out.now c.deliver.new.out c.deliver.result c.deliver.new.answer (λ v. v.items) 2 c.line_reason_of-text.result c.line_reason_of-text.ensures c.deliver.ensures.writes in
    let says = c.from_line.ensures.refused c.in-Refused.bit c.in-Refused.var (rw c.in-Refused.is at c.in-Err.is) in
    inr (inl (c.in-Refused.bit, c.in-Refused.var, says, c.deliver.ensures.bit ∙ c.refuse.ensures.bit, c.deliver.ensures.var ∙ c.refuse.ensures.var, words))

pub returns-in-Shape : goal.returns-in-Shape
returns-in-Shape c =
    let words = words_said c.args.out.now c.deliver-in-Shape.new.out c.deliver-in-Shape.result c.deliver-in-Shape.new.answer (λ v. v.items) 6 c.line_reason_of-text-in-Shape.result c.line_reason_of-text-in-Shape.ensures c.deliver-in-Shape.ensures.writes in
    inr (inr (inl ((λ e l t. c.from_line.ensures.shape (rw c.in-Shape.is at c.in-Err.is) e l t), words)))
