-- Packets whose rows have no groups, and what is wrong with their numbers (SUBSET-026, 7.4.2).
use Rattle.std.specs.Prelude.{ℕ, ◌==◌, Bool, true, false, List, [], ◌∷◌, length, Option, Some, None, if◌then◌else◌}
use Rattle.std.specs.Option.{option_map, option_and_then}
use Rattle.etcs_vars.specs.declared.var.Var.{Var}
use Rattle.etcs_vars.specs.declared.var.Var.TheVariants.{NID_PACKET}
use Rattle.etcs_vars.specs.declared.fault.BuildFault.{BuildFault}
use Rattle.etcs_vars.specs.declared.fault.BuildFault.TheVariants.{NotAdmitted, Count}
use Rattle.etcs_vars.specs.Faults.{◌or_else◌, number_fault}
use Rattle.etcs_vars.specs.Reading.{Reading}
use Rattle.etcs_tables.specs.declared.item.RowItem.{RowItem}
use Rattle.etcs_tables.specs.declared.item.RowItem.TheVariants.{One, When, Many}
use Rattle.etcs_tables.specs.declared.row.Way.{Way}
use Rattle.etcs_tables.specs.declared.row.Way.TheVariants.{ToTrain}
use Rattle.etcs_tables.specs.Layouts.{Layout, whole, one, guarded, counted}
use Rattle.etcs_tables.specs.Rows.{row_to}
use Rattle.etcs_flat.specs.Others.{direction_fault}

-- a packet of a row without groups: its direction and its numbers
pub record FlatValue : Type 0 where
  pub dir : ℕ
  pub numbers : List ℕ

-- the packet of this direction and these numbers
abbrev pub flat_value : ℕ → List ℕ → FlatValue
flat_value dir ns = record { dir = dir; numbers = ns }

-- the variables of a row, in order; none if it has groups
abbrev pub variables : Layout → Option (List Var)
variables whole = Some []
variables (one v rest) = option_map (λ vs. v ∷ vs) (variables rest)
variables (guarded g group rest) = None
variables (counted group rest) = None

-- an item that is no group
abbrev pub is_one : RowItem → Bool
is_one (One v) = true
is_one (When g k) = false
is_one (Many k) = false

-- the variables of this packet's row, one way; none if it isn't typed or its row has groups
abbrev pub flat_row_to : Way → ℕ → Option (List Var)
flat_row_to way nid = option_and_then variables (row_to way nid)

-- the first variable, in order, that doesn't admit its number
abbrev pub numbers_fault : List Var → List ℕ → Option BuildFault
numbers_fault [] ns = None
numbers_fault (v ∷ vs) [] = None
numbers_fault (v ∷ vs) (n ∷ ns) = number_fault v n or_else numbers_fault vs ns

-- the first fault of a direction and numbers, by the variables that the packet has, if it has a row without groups
abbrev pub row_fault : Way → Option (List Var) → ℕ → List ℕ → Option BuildFault
row_fault way None dir ns = Some (NotAdmitted NID_PACKET)
row_fault way (Some vs) dir ns = (if length ns == length vs then None else Some Count) or_else direction_fault way dir or_else numbers_fault vs ns

-- the first fault of a packet of these parts, one way: no such row, more or fewer numbers than variables, the
-- direction, then the first variable, in order, that doesn't admit its number
abbrev pub flat_fault_to : Way → ℕ → ℕ → List ℕ → Option BuildFault
flat_fault_to way nid dir ns = row_fault way (flat_row_to way nid) dir ns

-- variables with their numbers, as far as there are both
abbrev pub pairs : List Var → List ℕ → Reading
pairs [] ns = []
pairs (v ∷ vs) [] = []
pairs (v ∷ vs) (n ∷ ns) = (v, n) ∷ pairs vs ns

-- these variables, if there are some, with their numbers
abbrev pub row_reading : Option (List Var) → List ℕ → Reading
row_reading None ns = []
row_reading (Some vs) ns = pairs vs ns

-- the variables of this packet's row, one way, with these numbers
abbrev pub flat_reading_to : Way → ℕ → List ℕ → Reading
flat_reading_to way nid ns = row_reading (flat_row_to way nid) ns

-- ---- To the train, as all packets of this crate.

-- the variables of this packet's row to the train; none if it isn't typed or its row has groups
abbrev pub flat_row : ℕ → Option (List Var)
flat_row nid = flat_row_to ToTrain nid

-- the first fault of a packet to the train of these parts: no such row, more or fewer numbers than variables, the
-- direction, then the first variable, in order, that doesn't admit its number
abbrev pub flat_fault : ℕ → ℕ → List ℕ → Option BuildFault
flat_fault nid dir ns = flat_fault_to ToTrain nid dir ns

-- the variables of this packet's row to the train, with these numbers
abbrev pub flat_reading : ℕ → List ℕ → Reading
flat_reading nid ns = flat_reading_to ToTrain nid ns
