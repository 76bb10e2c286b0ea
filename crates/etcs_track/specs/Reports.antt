-- Packets 0 and 1 to the track, the position reports (SUBSET-026, 7.4.3).
use Rattle.std.proofs.Common.{ℕ, Option}
use Rattle.etcs_vars.specs.declared.var.Var.TheVariants.{Q_SCALE, NID_LRBG, NID_PRVLRBG}
use Rattle.etcs_vars.specs.declared.fault.BuildFault.{BuildFault}
use Rattle.etcs_bodies.specs.Formats.{Format, number, ◌⊗◌, part, named, fault}
use Rattle.etcs_track.specs.Locations.{Located, located_format}
pub use Rattle.etcs_track.specs.declared.position_report.PositionReport.TheInside.{Inside as PositionReport}
pub use Rattle.etcs_track.specs.declared.position_report_two.PositionReportTwo.TheInside.{Inside as PositionReportTwo}

-- ---- Packet 0.

-- packet 0 of these parts, in the order of the constructor's
abbrev pub position_report_value : ℕ → ℕ → Located → PositionReport
position_report_value q_scale nid_lrbg located = record { q_scale = q_scale; nid_lrbg = nid_lrbg; located = located }

-- the format of packet 0 after L_PACKET: its variables in the order of sending
abbrev pub position_report_format : Format PositionReport
position_report_format =
    named (λ n. record { q_scale = n.0; nid_lrbg = n.1.0; located = n.1.1 }) (λ p. (p.q_scale, (p.nid_lrbg, p.located))) (
    number Q_SCALE ⊗ number NID_LRBG ⊗ part located_format)

-- the first fault of packet 0, in the order of the variables; where the train is isn't looked at again
abbrev pub position_report_fault : PositionReport → Option BuildFault
position_report_fault = fault position_report_format

-- ---- Packet 1.

-- packet 1 of these parts, in the order of the constructor's
abbrev pub position_report_two_value : ℕ → ℕ → ℕ → Located → PositionReportTwo
position_report_two_value q_scale nid_lrbg nid_prvlrbg located = record { q_scale = q_scale; nid_lrbg = nid_lrbg; nid_prvlrbg = nid_prvlrbg; located = located }

-- the format of packet 1 after L_PACKET: its variables in the order of sending
abbrev pub position_report_two_format : Format PositionReportTwo
position_report_two_format =
    named
    (λ n. record { q_scale = n.0; nid_lrbg = n.1.0; nid_prvlrbg = n.1.1.0; located = n.1.1.1 })
    (λ p. (p.q_scale, (p.nid_lrbg, (p.nid_prvlrbg, p.located)))) (
    number Q_SCALE ⊗ number NID_LRBG ⊗ number NID_PRVLRBG ⊗ part located_format)

-- the first fault of packet 1, in the order of the variables; where the train is isn't looked at again
abbrev pub position_report_two_fault : PositionReportTwo → Option BuildFault
position_report_two_fault = fault position_report_two_format
