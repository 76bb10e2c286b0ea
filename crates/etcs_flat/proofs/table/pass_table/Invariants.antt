use Rattle.std.proofs.Common.{◌≡◌, ℕ, List, length, drop}
use Rattle.etcs_bodies.specs.Repeats.{beyond}
use Rattle.etcs_flat.specs.Tables.{table_from, table_pairs}
use Rattle.etcs_flat.proofs.table.pass_table.Given as goal

-- what is taken so far is in front of what the rest of the table takes, and was sent
abbrev pub invariant-loop-item : goal.invariant-loop-item
invariant-loop-item g l =
    let left = g.L.NextNumber.left in
    (ns : List ℕ) × (table_from l.table (left l.fn.numbers) ≡ beyond ns (table_from (drop l.item-index l.table) (left l.numbers)))
    × (length ns ≡ l.item-index) × (l.out ≡ g.S.VarSink.with l.fn.out (table_pairs l.table ns))
