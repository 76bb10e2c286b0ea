use Rattle.std.proofs.Common.{map, refl}
use Rattle.serde_json.specs.Written.{compact_text}
use Rattle.etcs_tables.specs.Headers.{head_row}
use Rattle.etcs_tables.specs.declared.item.RowItem.TheVariants.{One}
use Rattle.etcs_packet_text.specs.Trees.{pairs_tree}
use Rattle.etcs_json.proofs.ItemTrees.{head_fields}
use Rattle.etcs_json.proofs.TakenTexts.{passed}
use Rattle.etcs_json.proofs.line.pass_head.Goals as goal

pub returns : goal.returns
returns c =
    let (r, reads, within, text, bits) = c.in_ok-after.ensures in
    let fields = head_fields c.args.way (map One (head_row c.args.way)) refl in
    (r, (fields r).0 reads, passed c.args.text.now c.left-left.result.now c.take.new.self (compact_text (pairs_tree r)) c.in_ok-after.after c.left-left.ensures c.take.ensures text, bits)
