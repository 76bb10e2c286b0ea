use Rattle.std.proofs.Common.{◌∙◌, inl, refl}
use Rattle.etcs_bits.specs.Bits.{bits}
use Rattle.etcs_vars.specs.Reading as outcome
use Rattle.etcs_rows.specs.Words.{words}
use Rattle.etcs_text.specs.Entries.{EntryReads}
use Rattle.etcs_c.proofs.Refusals.{exactly_said}
use Rattle.etcs_c.proofs.Saying.{unrefused_said}
use Rattle.etcs_c.proofs.explained.write_why.Goals as goal

pub returns-in-Ok : goal.returns-in-Ok
returns-in-Ok c =
    let r = c.in-Ok.refusal in
    let (bit, var, refused, explains) = c.in-Ok.ensures in
    let said = exactly_said (λ v. v.items) (words r) 2 c.args.out.now c.deliver.new.out c.deliver.result c.deliver.new.answer c.sentence_of-sentence.result c.sentence_of-sentence.ensures c.deliver.ensures.writes in
    inl (outcome.refused r.bit r.var, refused, (c.deliver.ensures.bit ∙ bit, c.deliver.ensures.var ∙ var, (r, (refl, refl, explains), said)))

pub returns-in-Err : goal.returns-in-Err
returns-in-Err c = unrefused_said (EntryReads c.args.kind) (bits c.args.bytes.now) c.in-Err.status c.refusal_of.new.answer _ c.args.out.now c.in-Err.ensures.0
