use Rattle.std.proofs.Common.{ℕ, List, ◌++◌, ◌∙◌, ap, subst, sym}
use Rattle.etcs_text.specs.Encodings.{IsEncoded}
use Rattle.etcs_text.specs.Entries.{entry_value}
use Rattle.etcs_text.proofs.Sames.{entry_item, pairs_again}
use Rattle.etcs_text.proofs.laws.encoded_pairs.Goals as goal

pub returns-in_err-encoded-clause-item : goal.returns-in_err-encoded-clause-item
returns-in_err-encoded-clause-item c = entry_item c.args.entry.now c.hold.ensures

pub returns-clause-item : goal.returns-clause-item
returns-clause-item c = entry_item c.args.entry.now c.hold.ensures

pub returns-clause-pairs : goal.returns-clause-pairs
returns-clause-pairs c =
    let e = c.args.entry.now in
    let (added, encoded, is) = c.in_ok-encoded.ensures.ok in
    let same = ap (λ (old : List ℕ). old ++ added) (sym c.new-bytes.ensures.items) ∙ sym is ∙ sym c.as_slice.ensures.value in
    pairs_again e c.hold.ensures c.as_slice.result.now c.kind_of.result c.read_pairs.result c.kind_of.ensures (subst (IsEncoded (entry_value e)) same encoded) c.read_pairs.ensures.outcome
