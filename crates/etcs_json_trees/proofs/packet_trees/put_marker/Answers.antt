use Rattle.serde_json.specs.View.{view}
use Rattle.etcs_json_trees.proofs.Outcomes.{ok_then}
use Rattle.etcs_json_trees.proofs.PacketTrees.{marker_put, marker_refused}
use Rattle.etcs_json_trees.proofs.packet_trees.put_marker.Goals as goal

pub returns-clause-ok : goal.returns-clause-ok
returns-clause-ok c =
    ok_then c.put_row_tree.result c.put_row_tree.ensures.ok
    (λ (r, reads, list, put). marker_put (view c.in-Some.fields.now) (view c.in-Some.nid.now) (view c.args.value.now) r c.args.out.now c.send.new.self c.put_row_tree.new.out c.in-Some.ensures.some (c.is_zero.ensures.0 c.if-not-is_zero.false) c.in_ok-send.ensures.ok reads list put)

pub returns-clause-invalid : goal.returns-clause-invalid
returns-clause-invalid c = λ refused n packet tree room.
    marker_refused (view c.in-Some.fields.now) (view c.in-Some.nid.now) (view c.args.value.now) n c.args.out.now c.send.new.self c.in-Some.ensures.some c.in_ok-send.ensures.ok (c.put_row_tree.ensures.invalid refused) packet tree room
