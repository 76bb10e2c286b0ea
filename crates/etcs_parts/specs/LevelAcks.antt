-- A level with its length of acknowledgement, of packet 41 (SUBSET-026, 7.4.2).
use Rattle.std.proofs.Common.{ℕ, Option}
use Rattle.etcs_vars.specs.declared.var.Var.TheVariants.{L_ACKLEVELTR}
use Rattle.etcs_vars.specs.declared.fault.BuildFault.{BuildFault}
use Rattle.etcs_bodies.specs.Formats.{Format, number, ◌⊗◌, named, fault}
use Rattle.etcs_parts.specs.Levels.{level_value, level_format}
pub use Rattle.etcs_parts.specs.declared.level_ack.LevelAck.TheInside.{Inside as LevelAck}

-- a level with its length of acknowledgement of these numbers and parts, in the order of the constructor's
abbrev pub level_ack_value : ℕ → Option ℕ → ℕ → LevelAck
level_ack_value m_leveltr nid_ntc l_ackleveltr = record { level = level_value m_leveltr nid_ntc; l_ackleveltr = l_ackleveltr }

-- the format of a level with its length of acknowledgement: its variables in the order of sending
abbrev pub level_ack_format : Format LevelAck
level_ack_format =
    named (λ n. record { level = n.0; l_ackleveltr = n.1 }) (λ p. (p.level, p.l_ackleveltr)) (
    level_format ⊗ number L_ACKLEVELTR)

-- the first fault of a level with its length of acknowledgement, in the order of the variables
abbrev pub level_ack_fault : LevelAck → Option BuildFault
level_ack_fault = fault level_ack_format
