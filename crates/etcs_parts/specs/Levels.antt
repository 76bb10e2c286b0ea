-- A level, of packets 41 and 46 (SUBSET-026, 7.4.2).
use Rattle.std.proofs.Common.{ℕ, Option}
use Rattle.etcs_vars.specs.declared.var.Var.TheVariants.{M_LEVELTR, NID_NTC}
use Rattle.etcs_vars.specs.declared.fault.BuildFault.{BuildFault}
use Rattle.etcs_tables.specs.declared.item.Test.TheVariants.{IsOne}
use Rattle.etcs_bodies.specs.Formats.{Format, number, guarded, named, fault}
pub use Rattle.etcs_parts.specs.declared.level.Level.TheInside.{Inside as Level}

-- a level of these numbers and parts, in the order of the constructor's
abbrev pub level_value : ℕ → Option ℕ → Level
level_value m_leveltr nid_ntc = record { m_leveltr = m_leveltr; nid_ntc = nid_ntc }

-- the format of a level: the national system is there exactly if the level is 1
abbrev pub level_format : Format Level
level_format =
    named (λ n. record { m_leveltr = n.0; nid_ntc = n.1 }) (λ p. (p.m_leveltr, p.nid_ntc)) (
    guarded M_LEVELTR IsOne (number NID_NTC))

-- the first fault of a level, in the order of the variables
abbrev pub level_fault : Level → Option BuildFault
level_fault = fault level_format
