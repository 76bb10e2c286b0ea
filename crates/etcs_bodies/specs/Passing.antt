-- What goes straight from what is left to be taken to a sink: parts, and all that is after L_PACKET (SUBSET-026, 7.4).
use Rattle.std.proofs.Common.{◌≡◌, ℕ, ◌≤◌, Bool, false, length, Option, None}
use Rattle.std.specs.Prelude.{IsTrue, IfSome, IsNone}
use Rattle.etcs_vars.specs.Reading.{Reading, spelled}
use Rattle.etcs_tables.specs.declared.row.Way.{Way}
use Rattle.etcs_tables.specs.Frames.{is_direction}
use Rattle.etcs_tables.specs.Layouts.{ROW_LIMIT}
use Rattle.etcs_tables.specs.Rows.{row_to}
use Rattle.etcs_tables.specs.Typed.{IsFramed}
use Rattle.etcs_bodies.specs.Taking.{Left, ahead}

-- the variables of r, with which s begins, went to a sink, by what it holds with more variables; t is left after them
pub record Went {S : Type 0} (with : S → Reading → S) (s t : Left) (out out' : S) (r : Reading) : Type 0 where
  pub taken : s ≡ ahead r t
  pub sent : out' ≡ with out r

-- those of a value went
abbrev pub Passed : {V S : Type 0} → (V → Type 0) → (V → Reading) → (S → Reading → S) → Left → Left → S → S → Type 0
Passed {V} IsValue reading with s t out out' = (v : V) × IsValue v × Went with s t out out' (reading v)

-- those of a row of this number went
abbrev pub PassedRow : {S : Type 0} → Way → ℕ → (S → Reading → S) → Left → Left → S → S → Type 0
PassedRow way nid with s t out out' =
    (r : Reading) × ((dir : ℕ) → IsTrue (is_direction way dir) → length (spelled r) ≤ ROW_LIMIT → IsFramed way nid dir r) × Went with s t out out' r

-- some variables went to the sink
abbrev pub Begun : {S : Type 0} → (S → Reading → S) → S → S → Type 0
Begun with out out' = (r : Reading) × (out' ≡ with out r)

-- what became of the row of a packet of this number: its variables went to the sink, some variables did, or the number
-- has no row
pub record IsPassedOn {S : Type 0} (way : Way) (nid : ℕ) (with : S → Reading → S) (s t : Left) (out out' : S) (o : Option Bool) : Type 0 where
  pub passed : IfSome o (λ b. IsTrue b → PassedRow way nid with s t out out')
  pub begun : IfSome o (λ b. b ≡ false → Begun with out out')
  pub none : IsNone o → (row_to way nid ≡ None) × (out' ≡ out)
