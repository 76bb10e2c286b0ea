use Rattle.std.proofs.Common.{◌∙◌}
use Rattle.etcs_tables.specs.declared.row.Way.TheVariants.{ToTrain}
use Rattle.etcs_tables.specs.Rows.{message_row_to}
use Rattle.etcs_radio.specs.laws.Rows.{plain_items, plain_none}
use Rattle.etcs_radio.proofs.body.is_plain.Goals as goal

pub returns-in-Some : goal.returns-in-Some
returns-in-Some c = c.is_empty.ensures ∙ plain_items (message_row_to ToTrain c.args.nid) c.in-Some.row.items.now c.in-Some.ensures

pub returns-in-None : goal.returns-in-None
returns-in-None c = plain_none (message_row_to ToTrain c.args.nid) c.in-None.ensures
