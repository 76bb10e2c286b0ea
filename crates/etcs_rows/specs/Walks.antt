-- Walks: reading a row of a known number of bits, bit by bit (rows of SUBSET-026, 7.4).
use Rattle.std.specs.Prelude.{◌≡◌, ◌↔◌, ℕ, ◌+◌, ◌-◌, ◌^◌, ◌<◌, ◌≤◌, Bool, List, [], ◌∷◌, ◌++◌, length, IsTrue, Option, Some, None, Result, Ok, Err, ◌⊎◌}
use Rattle.etcs_bits.specs.Bits.{num}
use Rattle.etcs_vars.specs.declared.var.Var.{Var}
use Rattle.etcs_vars.specs.Vars.{width}
use Rattle.etcs_vars.specs.Reading.{Reading, spelled, InLanguage, Viable, Owner}
use Rattle.etcs_vars.specs.Walking.{Residual}
use Rattle.etcs_reader.specs.declared.feeder.Stop.{Stop}
use Rattle.etcs_reader.specs.declared.feeder.Stop.TheVariants as stop
use Rattle.etcs_rows.specs.declared.walk.Step.{Step}
use Rattle.etcs_rows.specs.declared.walk.Step.TheVariants.{More, Number, Whole}
use Rattle.etcs_rows.specs.declared.walk.Stopped.{Stopped}
use Rattle.etcs_rows.specs.declared.walk.Stopped.TheVariants.{Refused, Ended}
use Rattle.etcs_tables.specs.Layouts.{Layout, whole, is_sound, ReadsIn}
use Rattle.etcs_rows.specs.Places.{first_variable, after_number}

-- what a walk stands for: what is left of the row (left), how many bits that is with those of the unfinished variable
-- (len), these bits (part), and the variable that held a refused bit (refused)
pub record WalkValue : Type 0 where
  pub left : Layout
  pub len : ℕ
  pub part : List Bool
  pub refused : Option Var

-- a walk's language: the readings of what is left, of len bits
abbrev pub language : WalkValue → Reading → Type 0
language w = ReadsIn w.left w.len

-- t are all bits of the next variable x, its number is n, and new is what is left after it
abbrev pub Ends : WalkValue → List Bool → Var → ℕ → WalkValue → Type 0
Ends old t x n new =
    (first_variable old.left ≡ Some x)
    × (n < 2 ^ width x)
    × (t ≡ num (width x) n)
    × (after_number old.left n ≡ Some new.left)
    × (new.len + width x ≡ old.len)
    × (new.part ≡ [])
    × (new.refused ≡ None)

-- the bits t of the next variable were taken: it isn't whole yet (More), it is whole and the row continues (Number), or
-- the row is whole (Whole)
abbrev pub Moves : WalkValue → List Bool → Step → WalkValue → Type 0
Moves old t More new = (x : Var) × (first_variable old.left ≡ Some x) × (length t < width x) × Owner (language old) t x × (new ≡ record old { part = t })
Moves old t (Number x n) new = Ends old t x n new × Viable (language old) t × (InLanguage (language old) t → ⊥) × (0 < new.len)
Moves old t (Whole x n) new = Ends old t x n new × InLanguage (language old) t × (new.left ≡ whole) × (new.len ≡ 0)

-- the row is whole, and nothing was refused
abbrev pub IsDone : WalkValue → Type 0
IsDone w = (w.refused ≡ None) × (w.left ≡ whole) × (w.len ≡ 0)

-- what a bit does: it is taken (Ok, by Moves); or refused with the variable that holds it in every spelling that
-- continues: the bits so far are viable and with it they aren't, and each later bit gets the same and changes nothing;
-- or the row was whole before (Ended)
abbrev pub TakesBit : WalkValue → Bool → Result Step Stopped → WalkValue → Type 0
TakesBit old b (Ok step) new = (old.refused ≡ None) × Moves old (old.part ++ b ∷ []) step new
TakesBit old b (Err (Refused x)) new =
    ((old.refused ≡ None) × Owner (language old) old.part x × (Viable (language old) (old.part ++ b ∷ []) → ⊥) × (new ≡ record old { refused = Some x }))
    ⊎ ((old.refused ≡ Some x) × (new ≡ old))
TakesBit old b (Err Ended) new = (old.refused ≡ None) × (old.left ≡ whole) × (old.len ≡ 0) × (new ≡ old)

-- the variable of the bit at which a feeder of a row stopped, if one was refused
abbrev pub refused_by : Option Stop → Option Var
refused_by None = None
refused_by (Some (stop.Refused i x)) = Some x
refused_by (Some stop.Memory) = None

-- the walk that a feeder of a row stands for
abbrev pub walk_of : Layout → ℕ → List Bool → Option Stop → WalkValue
walk_of left len part stop = record { left = left; len = len; part = part; refused = refused_by stop }

-- what is always true of a walk: its bits are fewer than the next variable is wide, all bits at most 8,191, and it
-- never stops for memory
pub record WalkKept (left : Layout) (len : ℕ) (part : List Bool) (count : ℕ) (why : Option Stop) : Type 0 where
  pub inside : (v : Var) → first_variable left ≡ Some v → length part < width v
  pub small : count + len ≤ 8191 + length part
  pub memory : why ≡ Some stop.Memory → ⊥
  pub going : (s : Stop) → why ≡ Some s → (v : Var) × (first_variable left ≡ Some v)

-- ---- All bits of a row.

-- the pairs p were read of a row of len bits, and left is what is left of it, in this many bits
abbrev pub ReadTo : Layout → ℕ → Reading → Layout → ℕ → Type 0
ReadTo row len [] left bits = (left ≡ row) × (bits ≡ len)
ReadTo row len ((v, n) ∷ p) left bits = (mid : Layout) × (first_variable row ≡ Some v) × (after_number row n ≡ Some mid) × (width v ≤ len) × ReadTo mid (len - width v) p left bits

-- the same, and the readings of what is left are those with which the row continues after p
pub record Follows (row : Layout) (len : ℕ) (p : Reading) (left : Layout) (bits : ℕ) : Type 0 where
  pub residual : Residual (ReadsIn row len) p (ReadsIn left bits)
  pub read : ReadTo row len p left bits

-- after the pairs p the bits t are viable or a spelling in the row exactly if they are in what is left of it, and the
-- variable that holds the next bit in what is left holds it in the row
pub record GoesOnAs (row : Layout) (len : ℕ) (p : Reading) (left : Layout) (bits : ℕ) (t : List Bool) : Type 0 where
  pub viable : Viable (ReadsIn row len) (spelled p ++ t) ↔ Viable (ReadsIn left bits) t
  pub spelling : InLanguage (ReadsIn row len) (spelled p ++ t) ↔ InLanguage (ReadsIn left bits) t
  pub owner : (x : Var) → Owner (ReadsIn left bits) t x → Owner (ReadsIn row len) (spelled p ++ t) x

-- after any pairs that were read of a sound row, any bits continue in the row as they do in what is left of it
abbrev pub WalksWhole : Type 0
WalksWhole = (row : Layout) (len : ℕ) (p : Reading) (left : Layout) (bits : ℕ) (t : List Bool) → IsTrue (is_sound row) → ReadTo row len p left bits → GoesOnAs row len p left bits t
