-- Packet 46, the conditional level transition order (SUBSET-026, 7.4.2).
use Rattle.std.proofs.Common.{ℕ, List, Option}
use Rattle.etcs_vars.specs.declared.fault.BuildFault.{BuildFault}
use Rattle.etcs_bodies.specs.Formats.{entries}
use Rattle.etcs_bodies.specs.PacketFormats.{PacketFormat, packet_of, packet_fault}
use Rattle.etcs_parts.specs.declared.level.Level.{Level}
use Rattle.etcs_parts.specs.Levels.{level_format}

-- packet 46: its direction and its numbers and parts
pub record ConditionalLevelOrderValue : Type 0 where
  pub dir : ℕ
  pub first : Level
  pub further : List Level

-- packet 46, of this direction and these numbers and parts, in the order of the constructor's
abbrev pub conditional_level_order_value : ℕ → Level → List Level → ConditionalLevelOrderValue
conditional_level_order_value dir first further = record { dir = dir; first = first; further = further }

-- the format of packet 46: its direction, and its variables after L_PACKET in the order of sending
abbrev pub conditional_level_order_packet : PacketFormat (Level × List Level) ConditionalLevelOrderValue
conditional_level_order_packet =
    packet_of (λ p. p.dir) (λ p. (p.first, p.further)) (λ dir b. record { dir = dir; first = b.0; further = b.1 }) (
    entries level_format)

-- the first fault of packet 46: the direction, then the count of further levels; the levels aren't looked at
-- again
abbrev pub conditional_level_order_fault : ConditionalLevelOrderValue → Option BuildFault
conditional_level_order_fault = packet_fault conditional_level_order_packet
