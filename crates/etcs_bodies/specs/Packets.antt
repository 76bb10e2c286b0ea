-- Packets after their frames: a direction, and a body that is the whole of a row (SUBSET-026, 7.4).
use Rattle.std.proofs.Common.{◌≡◌, ℕ, true, Option, Some, None}
use Rattle.std.specs.Prelude.{IsTrue, if◌then◌else◌, nat_le}
use Rattle.etcs_vars.specs.declared.fault.BuildFault.{BuildFault}
use Rattle.etcs_vars.specs.declared.fault.BuildFault.TheVariants.{TooLong}
use Rattle.etcs_vars.specs.Reading.{Reading}
use Rattle.etcs_tables.specs.declared.row.Way.{Way}
use Rattle.etcs_tables.specs.declared.row.Way.TheVariants.{ToTrain}
use Rattle.etcs_tables.specs.Frames.{is_direction}
use Rattle.etcs_tables.specs.Layouts.{ROW_LIMIT}
use Rattle.etcs_tables.specs.Typed.{IsFramed}
use Rattle.etcs_bodies.specs.Taking.{Left, Says, is_spent, ◌and_then◌}
use Rattle.etcs_bodies.specs.Repeats.{bit_count}

-- ---- The length.

-- the fault of a row of this many bits: TooLong if they are more than 8,168, which L_PACKET leaves, else none
unfoldable pub bits_fault : ℕ → Option BuildFault
bits_fault bits = if nat_le bits ROW_LIMIT then None else Some TooLong

-- the fault of a reading of too many bits: TooLong if they are more than 8,168, else none
unfoldable pub length_fault : Reading → Option BuildFault
length_fault r = bits_fault (bit_count r)

-- ---- What is read as a packet.

-- the packet of this way and direction, if it may have it, whose body takes all that is left
unfoldable pub packet_to : {P : Type 0} → Way → (ℕ → Left → Option (P × Left)) → ℕ → Left → Option P
packet_to way from dir s = if is_direction way dir then (from dir s and_then λ p. if is_spent p.1 then Some p.0 else None) else None

-- all that is left is a typed packet of this number and direction
abbrev pub IsPacketLeft : Way → ℕ → ℕ → Left → Type 0
IsPacketLeft way nid dir s = (r : Reading) × IsFramed way nid dir r × Says s r

-- the packet to the train of this direction, if Q_DIR admits it, whose body takes all that is left
abbrev pub packet_from : {P : Type 0} → (ℕ → Left → Option (P × Left)) → ℕ → Left → Option P
packet_from from = packet_to ToTrain from

-- the packet p was read from all of s: its body takes all that is left, and it may have the direction
pub record Whole {P : Type 0} (way : Way) (from : ℕ → Left → Option (P × Left)) (dir : ℕ) (s : Left) (p : P) : Type 0 where
  pub left : Left
  pub taken : from dir s ≡ Some (p, left)
  pub spent : is_spent left ≡ true
  pub dir_ok : IsTrue (is_direction way dir)
