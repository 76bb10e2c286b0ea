use Rattle.std.proofs.Common.{sym, ◌∙◌}
use Rattle.etcs_tables.specs.Layouts.{layout}
use Rattle.etcs_rows.proofs.RowSums.{led_alone}
use Rattle.etcs_rows.proofs.progression.plain_width.Goals as goal

pub returns-in-None : goal.returns-in-None
returns-in-None c = λ n.
    led_alone (layout c.args.group.now) c.in_ok-width.width n (sym c.has_group.ensures ∙ c.if-has_group.false) (rw c.in-None.is at c.in_ok-width.ensures.sum)
