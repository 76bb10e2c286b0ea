use Rattle.std.proofs.Common.{inl, inr, refl}
use Rattle.etcs_text.specs.Entries.{entry_value}
use Rattle.etcs_c.proofs.Delivering.{line_said}
use Rattle.etcs_c.proofs.json.from_json.Goals as goal

pub returns-in-Ok : goal.returns-in-Ok
returns-in-Ok c =
    line_said (λ v. v.items) (entry_value c.in-Ok.entry) c.args.out.now c.deliver.new.out c.deliver.result c.deliver.new.answer c.args.kind c.args.line.now c.in-Ok.ensures.ok c.encoding_of.result c.encoding_of.ensures c.deliver.ensures.writes

pub returns-in-Err-Refused : goal.returns-in-Err-Refused
returns-in-Err-Refused c =
    inr (inl (c.in-Err-Refused.bit, c.in-Err-Refused.var, c.refuse.ensures.status, rw c.in-Err-Refused.field-0-is at c.refuse.ensures.bit, rw c.in-Err-Refused.field-0-is at c.refuse.ensures.var, refl, c.from_line.ensures.refused c.in-Err-Refused.bit c.in-Err-Refused.var (rw c.in-Err-Refused.field-0-is at c.in-Err-Refused.is)))

pub returns-in-Err-Shape : goal.returns-in-Err-Shape
returns-in-Err-Shape c = inr (inr (inl (refl, refl, λ e l t. c.from_line.ensures.shape (rw c.in-Err-Shape.field-0-is at c.in-Err-Shape.is) e l t)))
