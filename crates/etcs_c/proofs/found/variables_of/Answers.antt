use Rattle.std.proofs.Common.{ℕ, inl, refl, subst}
use Rattle.etcs_bits.specs.Bits.{bits}
use Rattle.etcs_vars.specs.Reading.{IsOutcome, done, more, refused}
use Rattle.etcs_text.specs.Pairs.{PairsRead}
use Rattle.etcs_c.proofs.Whole.{whole_taken}
use Rattle.etcs_c.proofs.found.variables_of.Goals as goal

pub returns-in-Whole : goal.returns-in-Whole
returns-in-Whole c =
    let kind = c.args.kind in
    let b = bits c.args.bytes.now in
    let p = c.in-Ok.account.fields.items in
    let o = rw c.in-Whole.is at c.in-Ok.ensures.outcome in
    subst (λ (n : ℕ). IsOutcome (PairsRead kind) b (done p n)) (whole_taken kind b p c.bytes.result c.accept.new.answer.taken o c.bytes.ensures c.accept.ensures.taken) o

pub returns-in-Open : goal.returns-in-Open
returns-in-Open c = inl (more, rw c.in-Open.is at c.in-Ok.ensures.outcome, (refl, tt))

pub returns-in-Refused : goal.returns-in-Refused
returns-in-Refused c =
    let w = c.in-Refused in
    let said = c.refuse.ensures in
    inl (refused w.bit w.part.var, rw w.is at c.in-Ok.ensures.outcome, (said.bit, said.var, said.status))
