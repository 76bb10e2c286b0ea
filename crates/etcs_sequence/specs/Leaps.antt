-- From one variable of packets to another by several (SUBSET-026, 7.4 and 8).
use Rattle.std.specs.Prelude.{◌≡◌, ℕ, ◌-◌, ◌<◌, Bool, List, ◌++◌, length}
use Rattle.etcs_vars.specs.declared.var.Var.TheVariants.{OTHER_DATA}
use Rattle.etcs_vars.specs.Reading.{Reading, spelled, numbers, kept}
use Rattle.etcs_vars.specs.Walking.{Residual}
use Rattle.etcs_reader.specs.Rests.{LeapsBy, Goes}
use Rattle.etcs_tables.specs.Layouts.{Layout, ReadsIn}
use Rattle.etcs_packets.specs.PacketValues.{PacketValue}
use Rattle.etcs_rows.specs.Runs.{RunsTo}
use Rattle.etcs_rows.specs.declared.frames.Carrier.{Carrier}
use Rattle.etcs_sequence.specs.AtOnce.{Holds}
use Rattle.etcs_sequence.specs.Contents.{PacketsIn}
use Rattle.etcs_sequence.specs.Lefts.{left_of, Here, After, Moved, HoldsAt}
use Rattle.etcs_sequence.specs.declared.stage.Event.{Event}
use Rattle.etcs_sequence.specs.declared.state.PacketsState.{PacketsState}

-- p are the variables of whole packets, which take this many bits of a room
abbrev pub IsFrontOf : Carrier → ℕ → ℕ → Reading → Type 0
IsFrontOf c room bits p = Residual (PacketsIn c room) p (PacketsIn c (room - bits)) × (length (spelled p) ≡ bits)

-- by the variables p, what is left of packets at s becomes what is left at t
abbrev pub Moves : PacketsState → Reading → PacketsState → Type 0
Moves s p t = Moved s.carrier s.room s.stage p t.carrier t.room t.stage

-- the numbers of p are held after those so far of the row that is being read
abbrev pub RowBecomes : PacketsState → Reading → Event → PacketsState → Type 0
RowBecomes s p e t = (f : List ℕ) (k : List Bool) (h : Reading) → Here s.carrier s.stage f k h → After s.carrier t.stage (f ++ numbers p) k (h ++ p) e

-- the bits b of OTHER_DATA are kept after those so far
abbrev pub KeptBecomes : PacketsState → List Bool → Event → PacketsState → Type 0
KeptBecomes s b e t = (f : List ℕ) (k : List Bool) (h : Reading) → Here s.carrier s.stage f k h → After s.carrier t.stage f (k ++ b) (h ++ kept OTHER_DATA b) e

-- by the variables p, what is left of packets at s becomes what is left at t, and what H holds of the variables so far
-- becomes what H' holds of these and p
abbrev pub Follows : PacketsState → Holds → Reading → PacketsState → Holds → Type 0
Follows s H p t H' = Moves s p t × ((q : Reading) → HoldsAt s.carrier s.stage H q → HoldsAt t.carrier t.stage H' (q ++ p))

-- by n bits of xs from at on, what is left of packets at s becomes what is left at t, of which there is something, and
-- what H holds becomes what H' holds
abbrev pub Leaps : PacketsState → Holds → PacketsState → Holds → List Bool → ℕ → ℕ → Type 0
Leaps s H t H' xs at n = LeapsBy (left_of t.carrier t.room t.stage) (λ p. Follows s H p t H') xs at n

-- n bits of xs from at on spell the next variables of a row of len bits: left is what is left of it then, in this many
-- bits, and something is; and H' holds their numbers after those that H holds
pub record EntriesTo (row : Layout) (len : ℕ) (xs : List Bool) (at n : ℕ) (left : Layout) (bits : ℕ) (H H' : Holds) : Type 0 where
  pub numbers : List ℕ
  pub run : RunsTo row len xs at n numbers left bits
  pub goes : Goes (ReadsIn left bits)
  pub held : (vs : List PacketValue) (f : List ℕ) (k : List Bool) → H vs f k → H' vs (f ++ numbers) k

-- bits of xs from at on spell variables of a row of len bits, and something is left of it then
pub record BeginsAt (row : Layout) (len : ℕ) (xs : List Bool) (at : ℕ) : Type 0 where
  pub count : ℕ
  pub some : 0 < count
  pub numbers : List ℕ
  pub left : Layout
  pub bits : ℕ
  pub run : RunsTo row len xs at count numbers left bits
  pub goes : Goes (ReadsIn left bits)
