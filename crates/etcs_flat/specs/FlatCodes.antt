-- A packet without groups is a typed packet: what is taken for the variables of its row is what they spell
-- (SUBSET-026, 7.4.2).
use Rattle.std.proofs.Common.{◌≡◌, ℕ, List, [], ◌∷◌, length, map, Option, Some, None}
use Rattle.etcs_vars.specs.declared.var.Var.{Var}
use Rattle.etcs_tables.specs.declared.item.RowItem.TheVariants.{One}
use Rattle.etcs_tables.specs.Layouts.{Layout, one}
use Rattle.etcs_bodies.specs.Taking.{Left}
use Rattle.etcs_tables.specs.declared.row.Way.{Way}
use Rattle.etcs_tables.specs.declared.row.Way.TheVariants.{ToTrain}
use Rattle.etcs_bodies.specs.PacketCodes.{direction_as, directed_from, never}
use Rattle.etcs_flat.specs.Flats.{FlatValue, flat_value, flat_row_to, numbers_fault}
use Rattle.etcs_flat.specs.Tables.{table_from}

-- ---- The numbers of some variables.

-- the row of these variables in front of a rest
abbrev pub row_of : List Var → Layout → Layout
row_of [] rest = rest
row_of (v ∷ vs) rest = one v (row_of vs rest)

-- as many as the variables, and admitted by them
abbrev pub AreNumbers : List Var → List ℕ → Type 0
AreNumbers vs ns = (length ns ≡ length vs) × (numbers_fault vs ns ≡ None)

-- ---- A packet is a direction and such numbers, in whatever form.

-- a type of packets as such numbers
pub record Flatly (way : Way) {P : Type 0} (direction : P → ℕ) (body : P → List ℕ) (make : ℕ → List ℕ → P) : Type 0 where
  pub again : (p : P) → make (direction p) (body p) ≡ p
  pub dir_is : (dir : ℕ) (ns : List ℕ) → direction (make dir ns) ≡ direction_as way dir
  pub same : (dir : ℕ) (ns : List ℕ) → body (make dir ns) ≡ ns

-- these variables; no variables if there are none
abbrev pub known : Option (List Var) → List Var
known None = []
known (Some vs) = vs

-- the packet of a direction, by its row's variables, with which what is left begins, and what is left after it
abbrev pub row_from : {P : Type 0} → (ℕ → List ℕ → P) → Option (List Var) → ℕ → Left → Option (P × Left)
row_from make o = directed_from (table_from (map One (known o))) never make

-- the packet one way of this number and direction with which what is left begins, and what is left after it
abbrev pub flat_from_to : {P : Type 0} → Way → (ℕ → List ℕ → P) → ℕ → ℕ → Left → Option (P × Left)
flat_from_to way make nid = row_from make (flat_row_to way nid)

-- the packet to the train of this number and direction with which what is left begins, and what is left after it
abbrev pub flat_from : ℕ → ℕ → Left → Option (FlatValue × Left)
flat_from nid = flat_from_to ToTrain flat_value nid
