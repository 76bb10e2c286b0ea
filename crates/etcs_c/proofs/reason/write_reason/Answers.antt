use Rattle.std.proofs.Common.{inl, refl}
use Rattle.etcs_bits.specs.Bits.{bits}
use Rattle.etcs_vars.specs.Reading as outcome
use Rattle.etcs_text.specs.Entries.{EntryReads}
use Rattle.etcs_c.proofs.Saying.{unrefused_said}
use Rattle.etcs_c.proofs.reason.write_reason.Goals as goal

pub returns-in-Ok : goal.returns-in-Ok
returns-in-Ok c =
    let r = c.in-Ok.refusal in
    let (bit, var, refused, explains) = c.in-Ok.ensures in
    (inl (outcome.refused r.bit r.var, refused, (bit, var, (refl, (r, (refl, refl, explains), c.reason_of.ensures)))), λ i x o. refl)

pub returns-in-Err : goal.returns-in-Err
returns-in-Err c =
    let (said, not) = c.in-Err.ensures in
    (unrefused_said (EntryReads c.args.kind) (bits c.args.bytes.now) c.in-Err.status c.refusal_of.new.answer _ c.args.out.now said, λ i x o. absurd (not i x o))
