use Rattle.std.proofs.Common.{◌≡◌, List, Some, length, refl, ap, subst, ◌∙◌}
use Rattle.std.specs.Prelude.{slice_get}
use Rattle.std.proofs.lemmas.Option.{slice_get_read}
use Rattle.etcs_tables.specs.declared.item.RowItem.{RowItem}
use Rattle.etcs_tables.specs.declared.item.RowItem.TheVariants.{One}
use Rattle.etcs_vars.specs.declared.var.Var.TheVariants.{PAD}
use Rattle.etcs_tables.specs.Headers.{header_row}
use Rattle.etcs_telegram.proofs.RestSteps.{one_at}
use Rattle.etcs_telegram.proofs.phase.header_var.Goals as goal

pub returns-in-Some-One : goal.returns-in-Some-One
returns-in-Some-One c =
    let table = c.header_row.result.items.now in
    let found = c.in-Some-One.ensures.lookup in
    let item = c.in-Some-One.field-0.now in
    let got : slice_get table c.args.at ≡ Some item = slice_get_read table (length table) c.args.at item refl found.3.0 found.1 in
    let one : slice_get table c.args.at ≡ Some (One c.in-Some-One.var) = got ∙ ap (λ (i : RowItem). Some i) c.in-Some-One.field-0-is in
    one_at header_row PAD c.args.at c.in-Some-One.var (subst (λ (t : List RowItem). slice_get t c.args.at ≡ Some (One c.in-Some-One.var)) c.header_row.ensures one)
