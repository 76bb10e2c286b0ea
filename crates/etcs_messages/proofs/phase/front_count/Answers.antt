use Rattle.std.proofs.Common.{length, sym, ap, ◌∙◌}
use Rattle.std.specs.Prelude.{option_map}
use Rattle.etcs_tables.specs.Layouts.{items}
use Rattle.etcs_messages.proofs.Fronts.{count_is, none_asked, table_long}
use Rattle.etcs_messages.proofs.phase.front_count.Goals as goal

pub returns-in_err-row : goal.returns-in_err-row
returns-in_err-row c = c.from_residual.ensures ∙ sym (ap (option_map length) (none_asked c.args.way items c.args.nid c.in_err-row.ensures))

pub returns : goal.returns
returns c = rw (table_long c.args.way c.head_row.result.items.now c.head_row.ensures) (count_is c.args.way c.args.nid c.in_ok-row.row.items.now c.in_ok-row.ensures)
