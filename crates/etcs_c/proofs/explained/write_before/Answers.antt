use Rattle.std.proofs.Common.{◌∙◌, inl, length, refl}
use Rattle.etcs_bits.specs.Bits.{bits}
use Rattle.etcs_vars.specs.Reading as outcome
use Rattle.etcs_vars.specs.Reading.{spelled}
use Rattle.etcs_c.proofs.Refusals.{before_said}
use Rattle.etcs_c.proofs.Whole.{whole_taken}
use Rattle.etcs_c.proofs.explained.write_before.Goals as goal

pub returns-in-Whole : goal.returns-in-Whole
returns-in-Whole c =
    let p = c.in-Ok.account.fields.items in
    let o = rw c.in-Whole.is at c.in-Ok.ensures.outcome in
    let said = c.accept.ensures in
    let taken = whole_taken c.args.kind (bits c.args.bytes.now) p c.bytes.result c.accept.new.answer.taken o c.bytes.ensures said.taken in
    inl (outcome.done p (length (spelled p)), o, (taken, (said.status, said.written, refl)))

pub returns-in-Open : goal.returns-in-Open
returns-in-Open c = inl (outcome.more, rw c.in-Open.is at c.in-Ok.ensures.outcome, (refl, (refl, refl)))

pub returns-in-Ok : goal.returns-in-Ok
returns-in-Ok c =
    let w = c.in-Refused in
    let answer = c.deliver.ensures in
    let up = rw w.is at c.in-Ok.ensures.before in
    let said = before_said (λ v. v.items) c.args.kind (bits c.args.bytes.now) w.bit w.part c.in-Ok.account.fields.items _ up c.as_slice.ensures.value c.args.out.now c.deliver.new.out c.deliver.result c.deliver.new.answer c.fields_in-fields.result c.fields_in-fields.ensures answer.writes in
    inl (outcome.refused w.bit w.part.var, rw w.is at c.in-Ok.ensures.outcome, (answer.bit ∙ c.refuse.ensures.bit, answer.var ∙ c.refuse.ensures.var, said))
