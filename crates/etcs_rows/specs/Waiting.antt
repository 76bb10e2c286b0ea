-- The lengths that groups that wait leave, apart: of each as often as it still occurs, and of what is after it.
use Rattle.std.specs.Prelude.{◌≡◌, ℕ, List, [], ◌∷◌, reverse}
use Rattle.etcs_tables.specs.declared.item.RowItem.{RowItem}
use Rattle.etcs_rows.specs.declared.place.Pending.{Pending}
use Rattle.etcs_tables.specs.Layouts.{layout}
use Rattle.etcs_rows.specs.Lengths.{LengthsBy}
use Rattle.etcs_rows.specs.Sums.{Plus, SumOf}

-- m is a length of the groups that wait, each as often as it still occurs
abbrev pub Agains : List Pending → ℕ → Type 0
Agains [] m = m ≡ 0
Agains (p ∷ ps) m = Plus (SumOf p.times (LengthsBy (layout p.group.now) p.before)) (Agains ps) m

-- m is a length of what follows the groups that wait
abbrev pub Tails : List Pending → ℕ → Type 0
Tails [] m = m ≡ 0
Tails (p ∷ ps) m = Plus (LengthsBy (layout p.items.now) p.before) (Tails ps) m

-- m is a length of items that begin with a variable, and of what follows the groups that wait
abbrev pub Onward : List RowItem → List Pending → ℕ → Type 0
Onward items waiting m = Plus (LengthsBy (layout items) 0) (Tails (reverse waiting)) m
