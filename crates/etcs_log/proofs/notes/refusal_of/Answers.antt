use Rattle.std.proofs.Common.{ℕ, ◌∙◌, List, ap, subst, sym, take}
use Rattle.etcs_bits.specs.Bits.{bits}
use Rattle.etcs_vars.specs.Reading.{readings_of}
use Rattle.etcs_rows.specs.Refusals.{FindsRefusal}
use Rattle.etcs_text.specs.Entries.{EntryReads}
use Rattle.etcs_log.specs.Candidates.{telegram_bytes}
use Rattle.etcs_log.proofs.Answering.{whole_bits, whole_plain}
use Rattle.etcs_log.proofs.notes.refusal_of.Goals as goal

pub returns-then-are_bits : goal.returns-then-are_bits
returns-then-are_bits c =
    let kind = c.args.kind in
    let first = ap (λ (k : ℕ). take k c.packed.result) c.telegram_bytes.ensures.value ∙ ap (take (telegram_bytes kind)) c.packed.ensures in
    let these = first ∙ sym (whole_bits kind c.args.bytes.now (sym c.are_bits.ensures ∙ c.if-are_bits.true)) in
    subst (λ (z : List ℕ). FindsRefusal (readings_of (EntryReads kind)) (take 8184 (bits z)) c.refusal_at.result) these c.refusal_at.ensures

pub returns : goal.returns
returns c =
    let kind = c.args.kind in
    subst (λ (z : List ℕ). FindsRefusal (readings_of (EntryReads kind)) (take 8184 (bits z)) c.refusal_at-2.result) (sym (whole_plain kind c.args.bytes.now (sym c.are_bits.ensures ∙ c.if-are_bits.false))) c.refusal_at-2.ensures
