-- Packets to the train as formats: a direction, and all else of it, which is the whole of its row (SUBSET-026, 7.4).
use Rattle.std.proofs.Common.{◌≡◌, ℕ, ◌&&◌, Bool, Option, None, nat_eq}
use Rattle.etcs_vars.specs.declared.var.Var.TheVariants.{Q_DIR}
use Rattle.etcs_vars.specs.declared.fault.BuildFault.{BuildFault}
use Rattle.etcs_vars.specs.Faults.{◌or_else◌, number_fault}
use Rattle.etcs_vars.specs.Reading.{Reading}
use Rattle.etcs_bodies.specs.Taking.{Left}
use Rattle.etcs_bodies.specs.PacketCodes.{directed_from, never}
use Rattle.etcs_bodies.specs.Formats.{Format, fault, Is, reading, from, equal}

-- a packet to the train as its direction and the format of all else
pub record PacketFormat (B P : Type 0) : Type 1 where
  -- of all but the direction
  pub body : Format B
  pub direction : P → ℕ
  pub rest : P → B
  pub make : ℕ → B → P

-- the format of a packet of these: its direction, all else of it, what makes it of both, and the format of all else
abbrev pub packet_of : {B P : Type 0} → (P → ℕ) → (P → B) → (ℕ → B → P) → Format B → PacketFormat B P
packet_of direction rest make body = record { body = body; direction = direction; rest = rest; make = make }

-- the first refusal of a packet: its direction, then the variables in order; parts are values already, and aren't
-- looked at
abbrev pub packet_fault : {B P : Type 0} → PacketFormat B P → P → Option BuildFault
packet_fault k p = number_fault Q_DIR (k.direction p) or_else fault k.body (k.rest p)

-- p is a packet of the format: Q_DIR admits its direction, and all else is a value
abbrev pub IsPacketOf : {B P : Type 0} → PacketFormat B P → P → Type 0
IsPacketOf k p = (number_fault Q_DIR (k.direction p) ≡ None) × Is k.body (k.rest p)

-- the variables of a packet of the format after its frame, in the order of sending
abbrev pub packet_reading : {B P : Type 0} → PacketFormat B P → P → Reading
packet_reading k p = reading k.body (k.rest p)

-- the packet of a direction with which what is left begins, and what is left after it
abbrev pub packet_left : {B P : Type 0} → PacketFormat B P → ℕ → Left → Option (P × Left)
packet_left k = directed_from (from k.body) never k.make

-- `==` of two packets of the format: equal directions, and all else equal
abbrev pub packet_equal : {B P : Type 0} → PacketFormat B P → P → P → Bool
packet_equal k p q = nat_eq (k.direction p) (k.direction q) && equal k.body (k.rest p) (k.rest q)
