-- The numbers and the variables of a typed packet (SUBSET-026, 7.4).
use Rattle.std.specs.Prelude.{◌≡◌, ◌≤◌, ℕ, List, [], length, IsTrue, Some}
use Rattle.etcs_vars.specs.Reading.{Reading, spelled}
use Rattle.etcs_tables.specs.declared.row.Way.{Way}
use Rattle.etcs_tables.specs.Layouts.{Layout, Reads, AdmitsFields, ROW_LIMIT}
use Rattle.etcs_tables.specs.Rows.{row_to}
use Rattle.etcs_tables.specs.Frames.{is_direction}

-- packet nid is typed, its direction is admitted, and its row spells the numbers f in at most 8,168 bits
abbrev pub IsTyped : Way → ℕ → ℕ → List ℕ → Type 0
IsTyped way nid dir f = (row : Layout) × (row_to way nid ≡ Some row) × IsTrue (is_direction way dir) × AdmitsFields row f

-- packet nid is typed, its direction is admitted, and r is a reading of its row of at most 8,168 bits
abbrev pub IsFramed : Way → ℕ → ℕ → Reading → Type 0
IsFramed way nid dir r = (row : Layout) × (row_to way nid ≡ Some row) × IsTrue (is_direction way dir) × Reads row [] r × (length (spelled r) ≤ ROW_LIMIT)
