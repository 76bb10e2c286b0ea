-- An area of a mode, of packet 80 (SUBSET-026, 7.4.2).
use Rattle.std.proofs.Common.{ℕ, Bool, Option}
use Rattle.etcs_vars.specs.declared.var.Var.TheVariants.{D_MAMODE, M_MAMODE, V_MAMODE, L_MAMODE, L_ACKMAMODE, Q_MAMODE}
use Rattle.etcs_vars.specs.declared.fault.BuildFault.{BuildFault}
use Rattle.etcs_bodies.specs.Formats.{Format, number, flag, ◌⊗◌, named, fault}
pub use Rattle.etcs_parts.specs.declared.mode_section.ModeSection.TheInside.{Inside as ModeSection}

-- an area of a mode of these numbers and parts, in the order of the constructor's
abbrev pub mode_section_value : ℕ → ℕ → ℕ → ℕ → ℕ → Bool → ModeSection
mode_section_value d_mamode m_mamode v_mamode l_mamode l_ackmamode q_mamode =
    record { d_mamode = d_mamode; m_mamode = m_mamode; v_mamode = v_mamode; l_mamode = l_mamode; l_ackmamode = l_ackmamode; q_mamode = q_mamode }

-- the format of an area of a mode: its variables in the order of sending
abbrev pub mode_section_format : Format ModeSection
mode_section_format =
    named
    (λ n. record { d_mamode = n.0; m_mamode = n.1.0; v_mamode = n.1.1.0; l_mamode = n.1.1.1.0; l_ackmamode = n.1.1.1.1.0; q_mamode = n.1.1.1.1.1 })
    (λ p. (p.d_mamode, (p.m_mamode, (p.v_mamode, (p.l_mamode, (p.l_ackmamode, p.q_mamode)))))) (
    number D_MAMODE ⊗ number M_MAMODE ⊗ number V_MAMODE ⊗ number L_MAMODE ⊗ number L_ACKMAMODE ⊗ flag Q_MAMODE)

-- the first fault of an area of a mode, in the order of the variables
abbrev pub mode_section_fault : ModeSection → Option BuildFault
mode_section_fault = fault mode_section_format
