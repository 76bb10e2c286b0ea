use Rattle.std.proofs.Common.{◌≡◌, ◌++◌}
use Rattle.std.specs.Iterator.Adapters.{zip_first, zip_second}
use Rattle.std.specs.Slice.Iter.{iter_rest}
use Rattle.etcs_vars.specs.Reading.{Reading}
use Rattle.etcs_flat.specs.Tables.{table_pairs}
use Rattle.etcs_flat.proofs.table.send_table.Given as goal

-- some are sent, and those of what is left make up the rest
abbrev pub invariant-loop-item : goal.invariant-loop-item
invariant-loop-item g l =
    (goal.iterator-loop-item g).can_next l.item-iterator
    × (goal.iterator-loop-item g).is_finite l.item-iterator
    × (sent : Reading)
    × (l.out ≡ g.S.VarSink.with l.fn.out sent)
    × (sent ++ table_pairs (iter_rest (zip_first l.item-iterator)) (iter_rest (zip_second l.item-iterator)) ≡ table_pairs l.table l.numbers)
