use Rattle.std.proofs.Common.{◌≡◌, length, rules, sym, ap, ◌∙◌, Some, arith}
use Rattle.std.proofs.lemmas.Option.{IfSome_then}
use Rattle.serde_json.specs.Data.{Data, string, array, item, no_items}
use Rattle.serde_json.specs.View.{view, items_view}
use Rattle.etcs_vars.specs.Vars.{name}
use Rattle.etcs_json_trees.proofs.PairLemmas.{array_is, string_is, array_back, two_long, two_items}
use Rattle.etcs_json_trees.proofs.row_trees.pair_number.Goals as goal

pub returns-then-len-ne2-clause-only : goal.returns-then-len-ne2-clause-only
returns-then-len-ne2-clause-only c = λ n small (x, is, says).
    (let list = c.in_ok-list.list.now in
    let l = two_long list.items _ _ (array_back _ _ _ c.in_ok-list.ensures is) in
    absurd (c.if-len-ne2.true (omega (arith, c.len.ensures, l, list.ok))))

pub returns-clause-some : goal.returns-clause-some
returns-clause-some c =
    let list = c.in_ok-list.list.now in
    let two : length list.items ≡ 2 = omega (arith, c.len.ensures, c.if-len-ne2.false, list.ok) in
    let same : c.in_ok-as_str.field-0.now ≡ c.name.result.now = search rules in
    let first : view c.index.result.now ≡ string (name c.args.var) = string_is (view c.index.result.now) (name c.args.var) (ap Some (sym (same ∙ c.name.ensures)) ∙ c.in_ok-as_str.ensures) in
    let items = two_items list.items c.index.result.now c.index-2.result.now two c.index.ensures c.index-2.ensures in
    let all : items_view list.items ≡ item (string (name c.args.var)) (item (view c.index-2.result.now) no_items) = items ∙ ap (λ (d : Data). item d (item (view c.index-2.result.now) no_items)) first in
    let is : view c.args.value.now ≡ array (item (string (name c.args.var)) (item (view c.index-2.result.now) no_items)) = array_is _ _ c.in_ok-list.ensures ∙ ap array all in
    IfSome_then c.number_in.result c.number_in.ensures.some (λ n says. (view c.index-2.result.now, is, says))
