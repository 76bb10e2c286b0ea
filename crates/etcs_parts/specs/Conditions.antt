-- A track condition, of packet 68 (SUBSET-026, 7.4.2).
use Rattle.std.proofs.Common.{ℕ, Option}
use Rattle.etcs_vars.specs.declared.var.Var.TheVariants.{D_TRACKCOND, L_TRACKCOND, M_TRACKCOND}
use Rattle.etcs_vars.specs.declared.fault.BuildFault.{BuildFault}
use Rattle.etcs_bodies.specs.Formats.{Format, number, ◌⊗◌, named, fault}
pub use Rattle.etcs_parts.specs.declared.condition.Condition.TheInside.{Inside as Condition}

-- a track condition of these numbers and parts, in the order of the constructor's
abbrev pub condition_value : ℕ → ℕ → ℕ → Condition
condition_value d_trackcond l_trackcond m_trackcond =
    record { d_trackcond = d_trackcond; l_trackcond = l_trackcond; m_trackcond = m_trackcond }

-- the format of a track condition: its variables in the order of sending
abbrev pub condition_format : Format Condition
condition_format =
    named
    (λ n. record { d_trackcond = n.0; l_trackcond = n.1.0; m_trackcond = n.1.1 })
    (λ p. (p.d_trackcond, (p.l_trackcond, p.m_trackcond))) (
    number D_TRACKCOND ⊗ number L_TRACKCOND ⊗ number M_TRACKCOND)

-- the first fault of a track condition, in the order of the variables
abbrev pub condition_fault : Condition → Option BuildFault
condition_fault = fault condition_format
