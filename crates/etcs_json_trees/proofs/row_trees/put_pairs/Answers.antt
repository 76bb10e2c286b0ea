use Rattle.std.proofs.Common.{◌≡◌, ◌+◌, drop, ap, ◌∙◌, refl, sym, arith}
use Rattle.std.proofs.lemmas.List.{at_drop_more, at_drop_all}
use Rattle.serde_json.specs.Data.{item}
use Rattle.serde_json.specs.View.{view, items_view}
use Rattle.serde_json.specs.declared.value.Value.{Value}
use Rattle.etcs_json_trees.proofs.PairLemmas.{all_begun, next_begun, none_begun, short_begun, wrong_begun}
use Rattle.etcs_json_trees.proofs.row_trees.put_pairs.Goals as goal

pub loop-value-init : goal.loop-value-init
loop-value-init c = none_begun _ _ _ _ _ c.start-place.ensures.left c.start-place.ensures.looks refl

pub loop-value-preserved : goal.loop-value-preserved
loop-value-preserved c =
    let list = c.args.list.now in
    let i = c.loop-value.value-index in
    let here : items_view (drop i list) ≡ item (view c.value-item.result) (items_view (drop (i + 1) list)) =
    at_drop_more items_view list i c.value-item.result (omega arith) ∙ ap (λ (x : Value). item (view x) (items_view (drop (i + 1) list))) (sym c.value-item.is) in
    let (first, a, pair) = c.in-Some.ensures.some in
    next_begun _ _ _ _ _ c.in-Some.var c.in-Some.number _ _ _ _ _ _ c.loop-value.invariant here first a pair refl c.in-Some.ensures.only c.pass.ensures.left c.pass.ensures.looks c.in_ok-send.ensures.ok

pub returns-in_default-clause-invalid : goal.returns-in_default-clause-invalid
returns-in_default-clause-invalid c = λ refused r reads trees room.
    (let list = c.args.list.now in
    let i = c.loop-value.value-index in
    let here : items_view (drop i list) ≡ item (view c.value-item.result) (items_view (drop (i + 1) list)) =
    at_drop_more items_view list i c.value-item.result (omega arith) ∙ ap (λ (x : Value). item (view x) (items_view (drop (i + 1) list))) (sym c.value-item.is) in
    wrong_begun _ _ _ _ _ _ _ _ r c.loop-value.invariant here (λ v m first a pair. (let no = c.in_default.ensures.only v m first a pair in cc)) reads trees)

pub returns-in-Some-var-clause-invalid : goal.returns-in-Some-var-clause-invalid
returns-in-Some-var-clause-invalid c = λ refused r reads trees room.
    short_begun _ _ _ c.in-Some-var.field-0 _ _ _ r c.loop-value.invariant (at_drop_all items_view c.args.list.now c.loop-value.value-index (omega arith)) (sym c.in-Some-var.ensures) reads trees

pub returns-in-None-clause-ok : goal.returns-in-None-clause-ok
returns-in-None-clause-ok c =
    all_begun _ _ _ _ _ _ c.loop-value.invariant (at_drop_all items_view c.args.list.now c.loop-value.value-index (omega arith)) (sym c.in-None.ensures)
