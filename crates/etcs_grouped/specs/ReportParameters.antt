-- Packet 58, the parameters of position reports (SUBSET-026, 7.4.2).
use Rattle.std.proofs.Common.{ℕ, List, Option}
use Rattle.etcs_vars.specs.declared.var.Var.TheVariants.{Q_SCALE, T_CYCLOC, D_CYCLOC, M_LOC, N_ITER}
use Rattle.etcs_vars.specs.declared.fault.BuildFault.{BuildFault}
use Rattle.etcs_bodies.specs.Formats.{number, ◌⊗◌, listed}
use Rattle.etcs_bodies.specs.PacketFormats.{PacketFormat, packet_of, packet_fault}
use Rattle.etcs_parts.specs.declared.report_at.ReportAt.{ReportAt}
use Rattle.etcs_parts.specs.ReportsAt.{report_at_format}
pub use Rattle.etcs_grouped.specs.declared.report_parameters.ReportParameters.TheInside.{Inside as ReportParameters}

-- packet 58, of this direction and these numbers and parts, in the order of the constructor's
abbrev pub report_parameters_value : ℕ → ℕ → ℕ → ℕ → ℕ → List ReportAt → ReportParameters
report_parameters_value dir q_scale t_cycloc d_cycloc m_loc reports =
    record { dir = dir; q_scale = q_scale; t_cycloc = t_cycloc; d_cycloc = d_cycloc; m_loc = m_loc; reports = reports }

-- the format of packet 58: its direction, and its variables after L_PACKET in the order of sending
abbrev pub report_parameters_packet : PacketFormat (ℕ × (ℕ × (ℕ × (ℕ × List ReportAt)))) ReportParameters
report_parameters_packet =
    packet_of (λ p. p.dir)
    (λ p. (p.q_scale, (p.t_cycloc, (p.d_cycloc, (p.m_loc, p.reports)))))
    (λ dir b. record { dir = dir; q_scale = b.0; t_cycloc = b.1.0; d_cycloc = b.1.1.0; m_loc = b.1.1.1.0; reports = b.1.1.1.1 }) (
    number Q_SCALE ⊗ number T_CYCLOC ⊗ number D_CYCLOC ⊗ number M_LOC ⊗ listed N_ITER report_at_format)

-- the first fault of packet 58: the direction, its numbers in the order of the variables, then the count of
-- places; the places aren't looked at again
abbrev pub report_parameters_fault : ReportParameters → Option BuildFault
report_parameters_fault = packet_fault report_parameters_packet
