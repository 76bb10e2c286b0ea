-- A packet's numbers and bits determine the packet: what each typed packet proves, and what follows for all
-- (SUBSET-026, 7.4).
use Rattle.std.proofs.Common.{◌≡◌, ℕ, ◌≤◌, length, Option, Some, None}
use Rattle.etcs_vars.specs.declared.var.Var.TheVariants.{Q_DIR}
use Rattle.etcs_vars.specs.declared.fault.BuildFault.{BuildFault}
use Rattle.etcs_vars.specs.Faults.{number_fault}
use Rattle.etcs_vars.specs.Reading.{Reading, numbers, spelled}
use Rattle.etcs_tables.specs.declared.row.Way.{Way}
use Rattle.etcs_tables.specs.declared.row.Way.TheVariants.{ToTrain, ToTrack}
use Rattle.etcs_tables.specs.Layouts.{ROW_LIMIT}
use Rattle.etcs_tables.specs.Typed.{IsFramed}
use Rattle.etcs_bodies.specs.Taking.{Left, Says, listed, ◌and_then◌}
use Rattle.etcs_bodies.specs.Packets.{IsPacketLeft}

-- what a packet is read from, of any source, is what its variables are (sound, back), it is read if it is there
-- (complete), and its variables are those of its row (framed)
pub record PacketCodes {P : Type 0} (way : Way) (nid : ℕ) (direction : P → ℕ) (IsValue : P → Type 0) (reading : P → Reading) (from : ℕ → Left → Option P) : Type 0 where
  pub sound : (dir : ℕ) (s : Left) (p : P) → from dir s ≡ Some p → IsValue p × (direction p ≡ dir) × Says s (reading p)
  pub complete : (dir : ℕ) (s : Left) → from dir s ≡ None → IsPacketLeft way nid dir s → ⊥
  pub framed : (p : P) → IsValue p → IsFramed way nid (direction p) (reading p)
  pub back : (p : P) → IsValue p → from (direction p) (listed (numbers (reading p))) ≡ Some p

-- ---- A packet is a direction and a body.

-- what is read, if it has no fault
abbrev pub fitting : {A : Type 0} → Option BuildFault → A → Option A
fitting None a = Some a
fitting (Some e) a = None

-- the packet of a direction with which what is left begins, if it isn't too long, and what is left after it
unfoldable pub directed_from : {B P : Type 0} → (Left → Option (B × Left)) → (P → Option BuildFault) → (ℕ → B → P) → ℕ → Left → Option (P × Left)
directed_from from too_long make dir s = from s and_then λ b. fitting (too_long (make dir b.0)) (make dir b.0, b.1)

-- the length fault of packets that can't be too long: none
abbrev pub never : {P : Type 0} → P → Option BuildFault
never p = None

-- the direction that a packet has this way: to the train the one given, to the track 0
abbrev pub direction_as : Way → ℕ → ℕ
direction_as ToTrain dir = dir
direction_as ToTrack dir = 0

-- a packet may have this direction: to the train if Q_DIR admits it, to the track if it is 0
abbrev pub IsDirection : Way → ℕ → Type 0
IsDirection ToTrain dir = number_fault Q_DIR dir ≡ None
IsDirection ToTrack dir = dir ≡ 0

-- a packet as a direction and a body: what makes it a value, and that its length is counted
pub record Directed {B P : Type 0} (way : Way) (IsBody : B → Type 0) (body_reading : B → Reading) (too_long : P → Option BuildFault) (direction : P → ℕ) (IsValue : P → Type 0) (reading : P → Reading) (make : ℕ → B → P) : Type 0 where
  pub body : P → B
  pub again : (p : P) → make (direction p) (body p) ≡ p
  pub dir_is : (dir : ℕ) (b : B) → direction (make dir b) ≡ direction_as way dir
  pub same : (dir : ℕ) (b : B) → body_reading b ≡ reading (make dir b)
  pub is : (p : P) → IsValue p → IsBody (body p) × IsDirection way (direction p) × (length (spelled (reading p)) ≤ ROW_LIMIT)
  pub so : (dir : ℕ) (b : B) → IsBody b → IsDirection way dir → too_long (make dir b) ≡ None → IsValue (make dir b)
  pub fits : (dir : ℕ) (b : B) → length (spelled (reading (make dir b))) ≤ ROW_LIMIT → too_long (make dir b) ≡ None
