use Rattle.std.proofs.Common.{reverse, List, ◌∷◌, ap, ◌∙◌, subst}
use Rattle.etcs_tables.specs.declared.item.RowItem.{RowItem}
use Rattle.etcs_rows.specs.declared.place.Pending.{Pending}
use Rattle.etcs_rows.specs.Cursors.{waiting}
use Rattle.etcs_tables.specs.Layouts.{layout}
use Rattle.etcs_rows.specs.Lengths.{LengthsBy}
use Rattle.etcs_rows.specs.Progressions.{IsProgression}
use Rattle.etcs_rows.specs.Sums.{Plus}
use Rattle.etcs_rows.proofs.FitLemmas.{fits_number}
use Rattle.etcs_rows.proofs.fitting.fits_at.Goals as goal

pub returns-in_ok-left-in-Some-One-default : goal.returns-in_ok-left-in-Some-One-default
returns-in_ok-left-in-Some-One-default c =
    let cursor = c.args.cursor.now in let rest = c.in-Some-One-default.rest.now in let n = c.args.number in
    let left = c.in_ok-left-in-Some-One-default.left in
    let h = subst (λ (ps : List Pending). IsProgression left (Plus (LengthsBy (layout rest) n) (LengthsBy (waiting (reverse ps)) 0))) c.as_slice.ensures.value c.in_ok-left-in-Some-One-default.ensures in
    let all = fits_number cursor c.in-Some-One-default.var rest n c.args.bits left (c.in-Some-One-default.ensures.cases.0 ∙ ap (λ (i : RowItem). i ∷ rest) c.in-Some-One-default.field-0-0-is) h in
    (λ x. all.0 (c.fits_with.ensures.0 x), λ y. c.fits_with.ensures.1 (all.1 y))
