use Rattle.std.proofs.Common.{◌≡◌, ◌+◌, drop}
use Rattle.serde_json.specs.View.{items_view, members_view}
use Rattle.etcs_json_trees.specs.Fits.{items_weight, members_weight}
use Rattle.etcs_json_trees.proofs.weight.+spend.Given as goal

abbrev pub invariant-spend_items-loop-item : goal.invariant-spend_items-loop-item
invariant-spend_items-loop-item l = items_weight (items_view l.item-items) + l.left ≡ items_weight (items_view (drop l.item-index l.item-items)) + l.room

abbrev pub invariant-spend_members-loop-member : goal.invariant-spend_members-loop-member
invariant-spend_members-loop-member l = members_weight (members_view l.members.entries) + l.left ≡ members_weight (members_view l.member-iterator) + l.room
