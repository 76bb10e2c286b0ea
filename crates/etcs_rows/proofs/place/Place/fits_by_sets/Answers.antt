use Rattle.std.proofs.Common.{◌≡◌, ◌∷◌, sym, ap, ◌∙◌, subst}
use Rattle.std.specs.Prelude.{◌↔◌, IsTrue}
use Rattle.etcs_tables.specs.declared.item.RowItem.{RowItem}
use Rattle.etcs_tables.specs.Layouts.{Layout, begins}
use Rattle.etcs_rows.specs.Lengths.{FitsWithin}
use Rattle.etcs_rows.specs.Cursors.{left_of}
use Rattle.etcs_rows.proofs.SumLemmas.{fits_left, fits_none, no_items}
use Rattle.etcs_rows.proofs.place.Place.fits_by_sets.Goals as goal

pub returns-in-Some-One-default : goal.returns-in-Some-One-default
returns-in-Some-One-default c =
    let left = left_of c.self.inside.cursor in
    let is : left ≡ c.args.self.now = c.self.view_is in
    let rest = c.in-Some-One-default.rest.now in
    let x = fits_left c.self.inside.cursor c.in-Some-One-default.var rest c.args.low c.args.high c.args.bits c.first_lengths.result c.waiting_lengths.result c.plus.result
    (c.in-Some-One-default.ensures.cases.0 ∙ ap (λ (i : RowItem). i ∷ rest) c.in-Some-One-default.field-0-0-is) c.first_lengths.ensures c.waiting_lengths.ensures c.plus.ensures in
    subst (λ (row : Layout). IsTrue c.holds.result ↔ FitsWithin row c.args.low c.args.high c.args.bits) is (λ h. x.0 (c.holds.ensures.0 h), λ h. c.holds.ensures.1 (x.1 h))

pub returns-in-None : goal.returns-in-None
returns-in-None c =
    let left = left_of c.self.inside.cursor in
    let is : left ≡ c.args.self.now = c.self.view_is in
    let none = ap (λ (x : Layout). begins x) (no_items c.self.inside.cursor.items.now c.in-None.ensures.cases) in (
      λ h. absurd cc,
      λ h. absurd (fits_none c.self.inside.cursor c.args.low c.args.high c.args.bits c.self.invariant.1 none (subst (λ (row : Layout). FitsWithin row c.args.low c.args.high c.args.bits) (sym is) h)),
    )
