use Rattle.std.proofs.Common.{◌≡◌, Some, ap, sym, ◌∙◌}
use Rattle.std.proofs.lemmas.Bool.{both_ways}
use Rattle.etcs_tables.specs.Layouts.{Layout}
use Rattle.etcs_tables.specs.Rows.{row_to}
use Rattle.etcs_rows.proofs.FrameLemmas.{row_found, no_row}
use Rattle.etcs_rows.proofs.CauseLemmas.{row_first, kept_first, none_first}
use Rattle.etcs_rows.proofs.cause.least_body.Goals as goal

pub returns-in-Some : goal.returns-in-Some
returns-in-Some c =
    let a = c.args in
    let found : row_to a.way a.nid ≡ Some c.start.result = row_found (row_to a.way a.nid) c.in-Some.row.items.now c.in-Some.ensures ∙ ap (λ (r : Layout). Some r) (sym c.start.ensures.left) in
    row_first a.way a.nid c.start.result a.from c.around.result.above found (rw c.new.ensures at c.around.ensures.above)

pub returns-then-is_kept : goal.returns-then-is_kept
returns-then-is_kept c = kept_first c.args.way c.args.nid c.args.from c.requires (sym c.is_kept.ensures ∙ c.if-is_kept.true)

pub returns-else-is_kept : goal.returns-else-is_kept
returns-else-is_kept c = none_first c.args.way c.args.nid c.args.from (no_row (row_to c.args.way c.args.nid) c.in-None.ensures) (λ kept. both_ways c.is_kept.result c.if-is_kept.false (c.is_kept.ensures ∙ kept))
