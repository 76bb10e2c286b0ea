use Rattle.std.proofs.Common.{◌≡◌, ◌∷◌, sym, ap, ◌∙◌, subst}
use Rattle.std.proofs.lemmas.Bool.{not-true}
use Rattle.std.specs.Prelude.{IsTrue}
use Rattle.etcs_tables.specs.declared.item.RowItem.{RowItem}
use Rattle.etcs_tables.specs.Layouts.{Layout}
use Rattle.etcs_rows.specs.Lengths.{is_free}
use Rattle.etcs_rows.specs.Cursors.{left_of}
use Rattle.etcs_rows.proofs.SumLemmas.{free_place}
use Rattle.etcs_rows.proofs.place.Place.is_free.Goals as goal

pub returns-in-Some-One-default : goal.returns-in-Some-One-default
returns-in-Some-One-default c = λ h.
    let left = left_of c.self.inside.cursor in
    let is : left ≡ c.args.self.now = c.self.view_is in
    let rest = c.in-Some-One-default.rest.now in
    let none = sym c.has_group.ensures ∙ not-true c.has_group.result h in
    subst (λ (row : Layout). IsTrue (is_free row)) is
    (free_place c.self.inside.cursor c.in-Some-One-default.field-0-0-0 rest (c.in-Some-One-default.ensures.cases.0 ∙ ap (λ (i : RowItem). i ∷ rest) c.in-Some-One-default.field-0-0-is) none)
