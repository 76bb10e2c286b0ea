-- In which mode and level the display of a text begins or ends, of packets 72 and 76 (SUBSET-026, 7.4.2).
use Rattle.std.proofs.Common.{ℕ, Option}
use Rattle.etcs_vars.specs.declared.var.Var.TheVariants.{M_MODETEXTDISPLAY, M_LEVELTEXTDISPLAY, NID_NTC}
use Rattle.etcs_vars.specs.declared.fault.BuildFault.{BuildFault}
use Rattle.etcs_tables.specs.declared.item.Test.TheVariants.{IsOne}
use Rattle.etcs_bodies.specs.Formats.{Format, number, ◌⊗◌, guarded, named, fault}
pub use Rattle.etcs_parts.specs.declared.shown.Shown.TheInside.{Inside as Shown}

-- the mode and level in which a text is shown of these numbers and parts, in the order of the constructor's
abbrev pub shown_value : ℕ → ℕ → Option ℕ → Shown
shown_value m_modetextdisplay m_leveltextdisplay nid_ntc =
    record { m_modetextdisplay = m_modetextdisplay; m_leveltextdisplay = m_leveltextdisplay; nid_ntc = nid_ntc }

-- the format of the mode and level in which a text is shown: its variables in the order of sending
abbrev pub shown_format : Format Shown
shown_format =
    named
    (λ n. record { m_modetextdisplay = n.0; m_leveltextdisplay = n.1.0; nid_ntc = n.1.1 })
    (λ s. (s.m_modetextdisplay, (s.m_leveltextdisplay, s.nid_ntc))) (
    number M_MODETEXTDISPLAY ⊗ guarded M_LEVELTEXTDISPLAY IsOne (number NID_NTC))

-- the first fault of the mode and level in which a text is shown, in the order of the variables
abbrev pub shown_fault : Shown → Option BuildFault
shown_fault = fault shown_format
