use Rattle.std.proofs.Common.{◌≡◌, ◌+◌, ◌-◌, ◌<◌, ◌++◌, length, drop}
use Rattle.etcs_tables.specs.Layouts.{layout}
use Rattle.etcs_places.specs.Walks.{entries_of}
use Rattle.etcs_places.proofs.row.+put_row.Given as goal

abbrev pub decreases-put_row : goal.decreases-put_row
decreases-put_row l = length l.items.now

abbrev pub invariant-loop-entry : goal.invariant-loop-entry
invariant-loop-entry l = record {
  group : length l.group < length l.items;
  rest : length l.rest < length l.items;
  walked : l.places.items ++ entries_of (layout l.group) l.before l.at (l.entry + 1) (l.before - l.entry) (drop (length l.places.items) l.pairs) ≡ l.initial.places.items ++ entries_of (layout l.group) l.before l.at 1 l.before (drop (length l.initial.places.items) l.pairs);
}
