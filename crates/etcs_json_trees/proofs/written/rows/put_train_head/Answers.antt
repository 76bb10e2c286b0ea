use Rattle.std.proofs.Common.{List, [], map, refl}
use Rattle.etcs_vars.specs.declared.var.Var.TheVariants.{NID_ENGINE, T_TRAIN}
use Rattle.etcs_tables.specs.Headers.{head_row}
use Rattle.etcs_tables.specs.declared.item.RowItem.{RowItem}
use Rattle.etcs_tables.specs.declared.item.RowItem.TheVariants.{One}
use Rattle.etcs_tables.specs.declared.row.Way.TheVariants.{ToTrack}
use Rattle.etcs_json_trees.proofs.WrittenRows.{none_taken, ok_is, row_put, two_taken}
use Rattle.etcs_json_trees.proofs.written.rows.put_train_head.Goals as goal

pub returns : goal.returns
returns c =
    let table : List RowItem = map One (head_row ToTrack) in
    let all = two_taken table [] T_TRAIN NID_ENGINE _ _ _ _ _ [] (none_taken table _) c.in_ok-time.ensures.some in
    let put = ok_is c.send.result c.ok.result c.in_ok-ok.field-0 _ c.ok.ensures.value c.in_ok-ok.was c.send.ensures.ok in
    row_put table c.args.text.now _ _ _ _ _ _ _ _ _ c.in_ok-pairs.ensures all put c.in_ok-end.ensures refl
