use Rattle.std.proofs.Common.{◌≡◌, ◌+◌, List, [], drop, refl, arith}
use Rattle.std.proofs.lemmas.List.{at_drop_more, at_drop_all}
use Rattle.etcs_tables.specs.declared.item.RowItem.{RowItem}
use Rattle.etcs_json_trees.proofs.WrittenRows.{none_put, ok_is, one_put, table_put}
use Rattle.etcs_json_trees.proofs.written.rows.put_items.Goals as goal

pub loop-item-init : goal.loop-item-init
loop-item-init c = none_put c.args.row.items.now _ c.args.out.now _ refl

pub loop-item-preserved : goal.loop-item-preserved
loop-item-preserved c =
    let items = c.args.row.items.now in
    let i = c.loop-item.item-index in
    let put = ok_is c.send.result c.ok.result c.in_ok-ok.field-0 _ c.ok.ensures.value c.in_ok-ok.was c.send.ensures.ok in
    one_put items (drop i items) (drop (i + 1) items) _ _ _ _ _ _ _ _ _ c.loop-item.invariant (at_drop_more (λ (z : List RowItem). z) items i _ (omega arith)) c.in-One.is c.in_ok-number.ensures.next c.in_ok-number.ensures.bounded put

pub returns : goal.returns
returns c =
    let items = c.args.row.items.now in
    let i = c.loop-item.item-index in
    let none : drop i items ≡ [] = at_drop_all (λ (z : List RowItem). z) items i (omega arith) in
    table_put items (drop i items) c.args.text.now _ _ _ _ _ _ _ _ c.in_ok-pairs.ensures c.loop-item.invariant none c.in_ok-end.ensures refl
