use Rattle.std.proofs.Common.{◌*◌, ap, subst}
use Rattle.std.specs.Prelude.{MatchResult}
use Rattle.etcs_bits.specs.Bits.{bits}
use Rattle.etcs_vars.specs.Reading.{IsOutcome, done}
use Rattle.etcs_text.specs.declared.entry.Kind.{Kind}
use Rattle.etcs_text.specs.Entries.{EntryReads, entry_value}
use Rattle.etcs_text.specs.Readers.{ReaderValue}
use Rattle.etcs_c.specs.Answers.{SaysNone}
use Rattle.etcs_c.proofs.found.item_of.Goals as goal

pub first_item-item-requires : goal.first_item-item-requires
first_item-item-requires c = ap (λ (r : ReaderValue). r.progress) c.new-reader.ensures

pub returns : goal.returns
returns c =
    let b = bits c.args.bytes.now in
    let i = c.first_item-item in
    subst (λ (k : Kind). MatchResult i.result (λ m. IsOutcome (EntryReads k) b (done (entry_value m.0) (8 * m.1))) (λ s. SaysNone (EntryReads k) b s i.new.answer)) (ap (λ (r : ReaderValue). r.kind) c.new-reader.ensures) i.ensures
