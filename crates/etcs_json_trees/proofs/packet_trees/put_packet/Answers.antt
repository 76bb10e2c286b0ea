use Rattle.std.proofs.Common.{◌≡◌, false, true, refl, subst}
use Rattle.std.specs.Prelude.{IsTrue}
use Rattle.serde_json.specs.View.{view}
use Rattle.etcs_tables.specs.declared.row.Way.{Way}
use Rattle.etcs_tables.specs.Frames.{is_marker}
use Rattle.etcs_json_trees.proofs.Outcomes.{ok_then}
use Rattle.etcs_json_trees.proofs.PacketTrees.{kept_tree_put, marker_tree_none, marker_tree_put, typed_tree_put}
use Rattle.etcs_json_trees.proofs.packet_trees.put_packet.Goals as goal

pub returns-in-Some-clause-ok : goal.returns-in-Some-clause-ok
returns-in-Some-clause-ok c =
    ok_then c.put_typed.result c.put_typed.ensures.ok (typed_tree_put c.args.way c.args.has_marker (view c.args.value.now) (view c.in-Some.fields.now) c.in-Some.nid c.in-Some.dir c.args.out.now c.put_typed.new.out c.in-Some.ensures.some.1)

pub returns-in-Some-kept_members-clause-ok : goal.returns-in-Some-kept_members-clause-ok
returns-in-Some-kept_members-clause-ok c =
    let m = c.in-Some-kept_members in
    ok_then c.put_kept.result c.put_kept.ensures.ok (kept_tree_put c.args.way c.args.has_marker (view c.args.value.now) (view m.bits.now) m.nid m.dir c.args.out.now c.put_kept.new.out m.ensures.some.1)

pub returns-then-not-has_marker-clause-invalid : goal.returns-then-not-has_marker-clause-invalid
returns-then-not-has_marker-clause-invalid c refused =
    marker_tree_none c.args.way c.args.has_marker (view c.args.value.now) c.args.out.now
    (λ dir nid x d n e. c.in_default.ensures.none dir nid x d n e refl)
    (λ dir nid x d n e. c.in_default-kept_members.ensures.none dir nid x d n e refl)
    (λ n packet has tree room. has c.if-not-has_marker.true)

pub returns-in-ToTrain-clause-ok : goal.returns-in-ToTrain-clause-ok
returns-in-ToTrain-clause-ok c =
    ok_then c.put_marker.result c.put_marker.ensures.ok (marker_tree_put c.args.way c.args.has_marker (view c.args.value.now) c.args.out.now c.put_marker.new.out c.in-ToTrain.is c.if-not-has_marker.false)

pub returns-in-ToTrain-clause-invalid : goal.returns-in-ToTrain-clause-invalid
returns-in-ToTrain-clause-invalid c refused =
    marker_tree_none c.args.way c.args.has_marker (view c.args.value.now) c.args.out.now
    (λ dir nid x d n e. c.in_default.ensures.none dir nid x d n e refl)
    (λ dir nid x d n e. c.in_default-kept_members.ensures.none dir nid x d n e refl)
    (λ n packet has tree room. c.put_marker.ensures.invalid refused n (subst (λ (w : Way). IsTrue (is_marker w n)) c.in-ToTrain.is packet) tree room)

pub returns-in-ToTrack-clause-invalid : goal.returns-in-ToTrack-clause-invalid
returns-in-ToTrack-clause-invalid c refused =
    marker_tree_none c.args.way c.args.has_marker (view c.args.value.now) c.args.out.now
    (λ dir nid x d n e. c.in_default.ensures.none dir nid x d n e refl)
    (λ dir nid x d n e. c.in_default-kept_members.ensures.none dir nid x d n e refl)
    (λ n packet has tree room. (let no : false ≡ true = subst (λ (w : Way). IsTrue (is_marker w n)) c.in-ToTrack.is packet in cc))
