use Rattle.std.proofs.Common.{◌≡◌, List, map}
use Rattle.std.specs.Iterator.Adapters.{zip_first, zip_second}
use Rattle.std.specs.Slice.Iter.{iter_rest}
use Rattle.etcs_vars.specs.declared.var.Var.{Var}
use Rattle.etcs_tables.specs.declared.item.RowItem.TheVariants.{One}
use Rattle.etcs_flat.specs.Flats.{numbers_fault}
use Rattle.etcs_flat.proofs.flat.check_numbers.Given as goal

-- the numbers so far are admitted
abbrev pub invariant-loop-item : goal.invariant-loop-item
invariant-loop-item l =
    (vs : List Var) → l.table ≡ map One vs
    → (ws : List Var) × (iter_rest (zip_first l.item-iterator) ≡ map One ws) × (numbers_fault ws (iter_rest (zip_second l.item-iterator)) ≡ numbers_fault vs l.numbers)
