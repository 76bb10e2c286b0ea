-- What loops over the table of a row without groups compute (SUBSET-026, 7.4.2).
use Rattle.std.specs.Prelude.{ℕ, List, [], ◌∷◌, ◌++◌, Option, Some, None}
use Rattle.etcs_vars.specs.Vars.{width}
use Rattle.etcs_vars.specs.Reading.{Reading}
use Rattle.etcs_tables.specs.declared.item.RowItem.{RowItem}
use Rattle.etcs_tables.specs.declared.item.RowItem.TheVariants.{One, When, Many}
use Rattle.etcs_bodies.specs.Taking.{Left, ◌and_then◌, next_number}

-- how many bits the variable of an item takes; none if it is a group
abbrev pub item_width : RowItem → ℕ
item_width (One v) = width v
item_width (When g k) = 0
item_width (Many k) = 0

-- an item's variable with its number; nothing if it is a group
abbrev pub item_pair : RowItem → ℕ → Reading
item_pair (One v) n = (v, n) ∷ []
item_pair (When g k) n = []
item_pair (Many k) n = []

-- the variables of a table with their numbers, as far as there are both
abbrev pub table_pairs : List RowItem → List ℕ → Reading
table_pairs [] ns = []
table_pairs (item ∷ table) [] = []
table_pairs (item ∷ table) (n ∷ ns) = item_pair item n ++ table_pairs table ns

-- the numbers of a table's variables, taken one after another, and what is left after them; none if the table has a
-- group, a variable doesn't admit its number or too few numbers are left
abbrev pub table_from : List RowItem → Left → Option (List ℕ × Left)
table_from [] s = Some ([], s)
table_from (One v ∷ table) s = next_number v s and_then λ n. table_from table n.1 and_then λ ns. Some (n.0 ∷ ns.0, ns.1)
table_from (When g k ∷ table) s = None
table_from (Many k ∷ table) s = None
