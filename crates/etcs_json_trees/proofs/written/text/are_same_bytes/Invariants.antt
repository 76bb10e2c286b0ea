use Rattle.std.proofs.Common.{◌≡◌, ◌-◌, ◌≤◌, take}
use Rattle.etcs_json_trees.proofs.written.text.are_same_bytes.Given as goal

abbrev pub invariant-loop-at : goal.invariant-loop-at
invariant-loop-at g l = (l.at ≤ g.row.N) × (take l.at l.first ≡ take l.at l.second)

abbrev pub decreases-loop-at : goal.decreases-loop-at
decreases-loop-at g l = g.row.N - l.at
