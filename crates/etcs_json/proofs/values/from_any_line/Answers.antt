use Rattle.std.proofs.Common.{◌≡◌, ℕ, List, Option, Some, None, Result, Ok, Err, subst, sym, ◌∙◌}
use Rattle.std.specs.Prelude.{IfOk, IsUtf8}
use Rattle.serde_json.specs.Data.{Data}
use Rattle.serde_json.specs.Read.{read}
use Rattle.serde_json.specs.View.{view}
use Rattle.etcs_text.specs.declared.entry.Entry.{Entry}
use Rattle.etcs_text.specs.declared.entry.Kind.{Kind}
use Rattle.etcs_text.specs.Entries.{entry_value}
use Rattle.etcs_json.specs.JsonLines.{SaysItem}
use Rattle.etcs_json.specs.Loose.{TreeSays}
use Rattle.etcs_json.specs.TreeReading.{IsTreeOf}
use Rattle.etcs_json.proofs.FittingTrees.{item_fits}
use Rattle.etcs_json.proofs.values.from_any_line.Goals as goal

-- what a line's tree says
line_says : (kind : Kind) (line : List ℕ) (d : Data) (E : Type 0) (res : Result Entry E) → IsUtf8 line → read line ≡ Some d → IfOk res (λ e. TreeSays kind d (entry_value e)) → IfOk res (λ e. SaysItem kind line (entry_value e))
line_says kind line d E (Err x) utf8 is says = tt
line_says kind line d E (Ok e) utf8 is says = (d, utf8, is, says)

pub returns-in-Some-clause-ok : goal.returns-in-Some-clause-ok
returns-in-Some-clause-ok c =
    let is : c.in-Ok.tree ≡ Some c.in-Some.value.now = sym c.in-Some.ensures.value in
    let found = rw is at c.in-Ok.ensures.some in
    line_says c.args.kind c.args.line.now (view c.in-Some.value.now) _ c.from_value.result found.0 found.1 c.from_value.ensures.ok

pub returns-in-Some-clause-refused : goal.returns-in-Some-clause-refused
returns-in-Some-clause-refused c = λ i x refused.
    (let is : c.in-Ok.tree ≡ Some c.in-Some.value.now = sym c.in-Some.ensures.value in
    let found = rw is at c.in-Ok.ensures.some in
    (view c.in-Some.value.now, found.0, found.1, c.from_value.ensures.refused i x refused))

pub returns-in-Some-clause-shape : goal.returns-in-Some-clause-shape
returns-in-Some-clause-shape c = λ shape o loose (d, utf8, read_is, tree).
    (let is : c.in-Ok.tree ≡ Some c.in-Some.value.now = sym c.in-Some.ensures.value in
    let found = rw is at c.in-Ok.ensures.some in
    let both : ◌≡◌ {A = Option Data} (Some d) (Some (view c.in-Some.value.now)) = sym read_is ∙ found.1 in
    let same : d ≡ view c.in-Some.value.now = cc in
    c.from_value.ensures.shape shape o loose (subst (λ (x : Data). IsTreeOf o x) same tree))

-- an item's tree would have been made
pub returns-clause-shape : goal.returns-clause-shape
returns-clause-shape c = λ shape o loose (d, utf8, read_is, tree).
    (let is : c.in-Ok.tree ≡ None = sym c.in-None.ensures.value in
    let none = rw is at c.in-Ok.ensures.none in
    none d utf8 read_is (item_fits c.args.kind o d loose tree))
