-- Packet 41, the level transition order (SUBSET-026, 7.4.2).
use Rattle.std.proofs.Common.{ℕ, List, Option}
use Rattle.etcs_vars.specs.declared.var.Var.TheVariants.{Q_SCALE, D_LEVELTR}
use Rattle.etcs_vars.specs.declared.fault.BuildFault.{BuildFault}
use Rattle.etcs_bodies.specs.Formats.{number, ◌⊗◌, entries}
use Rattle.etcs_bodies.specs.PacketFormats.{PacketFormat, packet_of, packet_fault}
use Rattle.etcs_parts.specs.declared.level_ack.LevelAck.{LevelAck}
use Rattle.etcs_parts.specs.LevelAcks.{level_ack_format}

-- packet 41: its direction and its numbers and parts
pub record LevelOrderValue : Type 0 where
  pub dir : ℕ
  pub q_scale : ℕ
  pub d_leveltr : ℕ
  pub first : LevelAck
  pub further : List LevelAck

-- packet 41, of this direction and these numbers and parts, in the order of the constructor's
abbrev pub level_order_value : ℕ → ℕ → ℕ → LevelAck → List LevelAck → LevelOrderValue
level_order_value dir q_scale d_leveltr first further = record { dir = dir; q_scale = q_scale; d_leveltr = d_leveltr; first = first; further = further }

-- the format of packet 41: its direction, and its variables after L_PACKET in the order of sending
abbrev pub level_order_packet : PacketFormat (ℕ × (ℕ × (LevelAck × List LevelAck))) LevelOrderValue
level_order_packet =
    packet_of (λ p. p.dir)
    (λ p. (p.q_scale, (p.d_leveltr, (p.first, p.further))))
    (λ dir b. record { dir = dir; q_scale = b.0; d_leveltr = b.1.0; first = b.1.1.0; further = b.1.1.1 }) (
    number Q_SCALE ⊗ number D_LEVELTR ⊗ entries level_ack_format)

-- the first fault of packet 41: the direction, its numbers in the order of the variables, then the count of
-- further levels; the levels aren't looked at again
abbrev pub level_order_fault : LevelOrderValue → Option BuildFault
level_order_fault = packet_fault level_order_packet
