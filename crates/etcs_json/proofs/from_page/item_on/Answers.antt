use Rattle.std.proofs.Common.{◌≡◌, ◌/◌, Bool, List, length, take, sym, subst, ◌∙◌}
use Rattle.std.proofs.lemmas.List.{length-take-le}
use Rattle.std.proofs.lemmas.Result.{IfOk-weaker}
use Rattle.etcs_bits.specs.Bits.{bits}
use Rattle.etcs_vars.specs.Reading.{IsOutcome, refused}
use Rattle.etcs_text.specs.Entries.{EntryReads}
use Rattle.etcs_json.specs.Loose.{HasLength}
use Rattle.etcs_json.proofs.ItemLengths.{page_bytes}
use Rattle.etcs_json.proofs.from_page.item_on.Goals as goal

pub slice_bounds-bytes-end : goal.slice_bounds-bytes-end
slice_bounds-bytes-end c =
    let at = page_bytes c.args.page.now c.bytes.result.now c.requires.whole c.bytes.ensures.within c.bytes.ensures.first in
    rw c.len.ensures (sym (length-take-le (length c.args.page.now / 8) c.bytes.result.now at.0))

pub read_by-entry-requires : goal.read_by-entry-requires
read_by-entry-requires c =
    let at = page_bytes c.args.page.now c.bytes.result.now c.requires.whole c.bytes.ensures.within c.bytes.ensures.first in
    let same : bits (take (c.len.result / 8) c.bytes.result.now) ≡ c.args.page.now = rw c.len.ensures at.1 in
    rw c.new-reader.ensures (subst (λ (b : List Bool). HasLength c.args.kind b) (sym same) c.requires.long)

pub returns-clause-ok : goal.returns-clause-ok
returns-clause-ok c =
    let at = page_bytes c.args.page.now c.bytes.result.now c.requires.whole c.bytes.ensures.within c.bytes.ensures.first in
    let same : bits (take (c.len.result / 8) c.bytes.result.now) ≡ c.args.page.now = rw c.len.ensures at.1 in
    let read = rw c.new-reader.ensures at c.read_by-entry.ensures.ok in
    IfOk-weaker c.read_by-entry.result _ _ (λ e (r, reads, is). (r, reads, sym same ∙ sym is)) read

pub returns-clause-refused : goal.returns-clause-refused
returns-clause-refused c = λ i x e.
    (let at = page_bytes c.args.page.now c.bytes.result.now c.requires.whole c.bytes.ensures.within c.bytes.ensures.first in
    let same : bits (take (c.len.result / 8) c.bytes.result.now) ≡ c.args.page.now = rw c.len.ensures at.1 in
    let read = rw c.new-reader.ensures at c.read_by-entry.ensures.refused i x e in
    subst (λ (b : List Bool). IsOutcome (EntryReads c.args.kind) b (refused i x)) same read)
