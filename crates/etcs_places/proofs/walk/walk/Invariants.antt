use Rattle.std.proofs.Common.{◌≡◌, ◌-◌, ◌≤◌, [], ◌++◌, length, drop}
use Rattle.etcs_places.specs.Scans.{start, scan}
use Rattle.etcs_places.proofs.walk.walk.Given as goal

abbrev pub decreases-loop-pair : goal.decreases-loop-pair
decreases-loop-pair l = length l.pairs - length l.places.items

abbrev pub invariant-loop-pair : goal.invariant-loop-pair
invariant-loop-pair l = record {
  counted : l.here.packets ≤ length l.places.items;
  walked : l.places.items ++ scan l.way l.here [] (drop (length l.places.items) l.pairs) ≡ scan l.way start [] l.pairs;
}
