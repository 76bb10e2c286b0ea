use Rattle.std.proofs.Common.{sym, ◌∙◌, arith}
use Rattle.etcs_tables.specs.Rows.{message_row_to}
use Rattle.etcs_json.proofs.ItemTrees.{no_table}
use Rattle.etcs_json.proofs.PutItems.{kept_completes}
use Rattle.etcs_json.proofs.line.put_data.Goals as goal

pub returns : goal.returns
returns c =
    let (b, digits, bits) = c.in_ok-put_digits.ensures.some in
    let none = no_table _ c.message_row.result (message_row_to c.args.way c.args.nid) (sym c.is_some.ensures ∙ c.if-is_some.false) c.message_row.ensures in
    (b, digits, kept_completes c.args.way c.args.nid b none (omega (arith, c.ranges.nid)), bits)
