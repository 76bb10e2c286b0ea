use Rattle.std.proofs.Common.{◌≡◌, ◌+◌, ◌-◌, ◌^◌, ◌<◌, ◌≤◌, ◌++◌, drop, decimal}
use Rattle.etcs_json_trees.proofs.written.pair_numbers.more_digits.Given as goal

abbrev pub invariant-loop-place : goal.invariant-loop-place
invariant-loop-place l =
    (l.at < l.place) × (l.place ≤ l.at + l.most) × (0 < l.number) × (l.number < 10 ^ (l.place - l.at))
    × (drop l.at l.text ≡ decimal l.number ++ drop l.place l.text)

abbrev pub decreases-loop-place : goal.decreases-loop-place
decreases-loop-place l = l.at + l.most - l.place
