use Rattle.std.proofs.Common.{◌≡◌, length, drop}
use Rattle.etcs_bodies.specs.Repeats.{beyond}
use Rattle.etcs_flat.specs.Tables.{table_from}
use Rattle.etcs_flat.proofs.table.take_table.Given as goal

-- what is taken so far is in front of what the rest of the table takes
abbrev pub invariant-loop-item : goal.invariant-loop-item
invariant-loop-item g l =
    let left = g.L.NextNumber.left in
    (table_from l.table (left l.fn.numbers) ≡ beyond l.taken.items (table_from (drop l.item-index l.table) (left l.numbers)))
    × (length l.taken.items ≡ l.item-index)
