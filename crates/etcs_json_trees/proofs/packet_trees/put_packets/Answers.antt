use Rattle.std.proofs.Common.{◌≡◌, ◌+◌, drop, ap, ◌∙◌, sym, arith, rules}
use Rattle.std.proofs.lemmas.Grind.{common_steps}
use Rattle.std.proofs.lemmas.List.{at_drop_more, at_drop_all}
use Rattle.serde_json.specs.Data.{item}
use Rattle.serde_json.specs.View.{view, items_view}
use Rattle.serde_json.specs.declared.value.Value.{Value}
use Rattle.etcs_json_trees.proofs.PacketTrees.{all_put, none_more, one_put}
use Rattle.etcs_json_trees.proofs.packet_trees.put_packets.Goals as goal

pub loop-value-preserved : goal.loop-value-preserved
loop-value-preserved c =
    let list = c.args.list.now in
    let i = c.loop-value.value-index in
    let here : items_view (drop i list) ≡ item (view c.value-item.result) (items_view (drop (i + 1) list)) =
    at_drop_more items_view list i c.value-item.result (omega arith) ∙ ap (λ (x : Value). item (view x) (items_view (drop (i + 1) list))) (sym c.value-item.is) in
    one_put c.args.way c.args.has_marker _ _ _ _ _ _ _ c.loop-value.invariant here c.in_ok-put_packet.ensures.ok

pub returns-in_err-put_packet-clause-invalid : goal.returns-in_err-put_packet-clause-invalid
returns-in_err-put_packet-clause-invalid c = λ refused gs all trees room.
    (let list = c.args.list.now in
    let i = c.loop-value.value-index in
    let here : items_view (drop i list) ≡ item (view c.value-item.result) (items_view (drop (i + 1) list)) =
    at_drop_more items_view list i c.value-item.result (omega arith) ∙ ap (λ (x : Value). item (view x) (items_view (drop (i + 1) list))) (sym c.value-item.is) in
    none_more c.args.way c.args.has_marker _ gs _ _ _ _ _ c.loop-value.invariant here (c.in_err-put_packet.ensures.invalid (first_of (search rules, grind (arith, common_steps)))) all trees room)

pub returns-clause-ok : goal.returns-clause-ok
returns-clause-ok c = all_put c.args.way c.args.has_marker _ _ _ _ c.loop-value.invariant (at_drop_all items_view c.args.list.now c.loop-value.value-index (omega arith))
