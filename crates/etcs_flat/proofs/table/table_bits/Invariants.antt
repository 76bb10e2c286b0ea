use Rattle.std.proofs.Common.{◌≡◌, ◌*◌, ◌≤◌, take}
use Rattle.std.specs.Prelude.{sum_by}
use Rattle.etcs_flat.specs.Tables.{item_width}
use Rattle.etcs_flat.proofs.table.table_bits.Given as goal

abbrev pub invariant-loop-item : goal.invariant-loop-item
invariant-loop-item l = (l.bits ≡ sum_by item_width (take l.item-index l.table)) × (l.bits ≤ l.item-index * 64)
