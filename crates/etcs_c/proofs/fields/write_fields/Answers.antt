use Rattle.std.proofs.Common.{◌≡◌, ◌*◌, ℕ, ap, inl, subst, sym}
use Rattle.std.specs.Prelude.{IfOk}
use Rattle.etcs_bits.specs.Bits.{bits}
use Rattle.etcs_vars.specs.Reading.{Reading, done}
use Rattle.etcs_text.specs.Pairs.{PairsRead}
use Rattle.etcs_c.specs.Fields.{fields_of}
use Rattle.etcs_c.proofs.Refusals.{exactly_said}
use Rattle.etcs_c.proofs.Saying.{unwritten}
use Rattle.etcs_c.proofs.fields.write_fields.Goals as goal

pub returns-in-Ok : goal.returns-in-Ok
returns-in-Ok c =
    let w = c.variables_of in
    let d = c.deliver in
    let vars = c.in-Ok.account.fields.items in
    let o = rw c.in-Ok.is at w.ensures in
    let made = subst (λ (r : Reading). IfOk c.fields_in-fields.result (λ v. v.items ≡ fields_of r)) c.as_slice.ensures.value c.fields_in-fields.ensures in
    inl (done vars (8 * w.new.answer.taken), o, (ap (λ (n : ℕ). 8 * n) (sym d.ensures.taken), exactly_said (λ v. v.items) (fields_of vars) 0 c.args.out.now d.new.out d.result d.new.answer c.fields_in-fields.result made d.ensures.writes))

pub returns-in-Err : goal.returns-in-Err
returns-in-Err c = unwritten (PairsRead c.args.kind) (bits c.args.bytes.now) c.in-Err.status c.variables_of.new.answer _ c.args.out.now c.in-Err.ensures
