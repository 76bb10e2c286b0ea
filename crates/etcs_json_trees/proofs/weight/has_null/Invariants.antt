use Rattle.serde_json.specs.View.{members_view}
use Rattle.etcs_json_trees.specs.Found.{HasNull}
use Rattle.etcs_json_trees.proofs.weight.has_null.Given as goal

abbrev pub invariant-loop-member : goal.invariant-loop-member
invariant-loop-member l =
    (HasNull (members_view l.members.entries) → HasNull (members_view l.member-iterator)) × (HasNull (members_view l.member-iterator) → HasNull (members_view l.members.entries))
