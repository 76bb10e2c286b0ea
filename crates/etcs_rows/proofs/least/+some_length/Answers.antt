use Rattle.std.proofs.Common.{◌≡◌, List, sym, ap, ◌∙◌, arith}
use Rattle.etcs_tables.specs.declared.item.RowItem.{RowItem}
use Rattle.etcs_tables.specs.Layouts.{layout, one}
use Rattle.etcs_rows.proofs.LeastLengths.{least_whole, least_one, least_passed, least_not_passed, least_counted}
use Rattle.etcs_rows.proofs.least.+some_length.Goals as goal

pub returns-in-End : goal.returns-in-End
returns-in-End t c = least_whole (layout c.args.items.now) c.args.before (ap (λ (x : List RowItem). layout x) c.in-End.ensures)

pub returns-in_ok-beyond-in-One : goal.returns-in_ok-beyond-in-One
returns-in_ok-beyond-in-One t c =
    let rest = layout c.in-One.rest.now in
    let is : layout c.args.items.now ≡ one c.in-One.var rest = ap (λ (x : List RowItem). layout x) c.in-One.ensures.0 in
    least_one (layout c.args.items.now) rest c.in-One.var c.args.before c.in_ok-least_of-in-One.field-0 c.in_ok-beyond-in-One.beyond c.width.result c.checked_add.result is
    c.in_ok-least_of-in-One.ensures c.in_ok-beyond-in-One.ensures c.width.ensures c.checked_add.ensures

pub returns-in_ok-some_length-in-When : goal.returns-in_ok-some_length-in-When
returns-in_ok-some_length-in-When t c =
    let w = c.in-When in
    least_passed (layout c.args.items.now) w.guard (layout w.group.now) (layout w.rest.now) c.args.before c.in_ok-some_length-in-When.field-0 c.in_ok-beyond-in-When.beyond c.checked_add-then-passes.result
    w.ensures.0 (sym c.passes.ensures ∙ c.if-passes.true) c.in_ok-some_length-in-When.ensures c.in_ok-beyond-in-When.ensures c.checked_add-then-passes.ensures

pub returns-else-passes : goal.returns-else-passes
returns-else-passes t c =
    let w = c.in-When in
    least_not_passed (layout c.args.items.now) w.guard (layout w.group.now) (layout w.rest.now) c.args.before c.in_ok-beyond-in-When.beyond
    w.ensures.0 (sym c.passes.ensures ∙ c.if-passes.false) c.in_ok-beyond-in-When.ensures

pub returns-else-before-gt0 : goal.returns-else-before-gt0
returns-else-before-gt0 t c =
    let w = c.in-Many in
    least_counted (layout c.args.items.now) (layout w.field-0.now) (layout w.rest.now) c.args.before c.some_length-in-Many.result
    w.ensures.0 (omega (arith, c.if-before-gt0.false)) c.some_length-in-Many.ensures
