-- A place at which the train reports its position, an entry of packet 58 (SUBSET-026, 7.4.2).
use Rattle.std.proofs.Common.{ℕ, Bool, Option}
use Rattle.etcs_vars.specs.declared.var.Var.TheVariants.{D_LOC, Q_LGTLOC}
use Rattle.etcs_vars.specs.declared.fault.BuildFault.{BuildFault}
use Rattle.etcs_bodies.specs.Formats.{Format, number, flag, ◌⊗◌, named, fault}
pub use Rattle.etcs_parts.specs.declared.report_at.ReportAt.TheInside.{Inside as ReportAt}

-- a place of a report of these numbers and parts, in the order of the constructor's
abbrev pub report_at_value : ℕ → Bool → ReportAt
report_at_value d_loc q_lgtloc = record { d_loc = d_loc; q_lgtloc = q_lgtloc }

-- the format of a place of a report: its variables in the order of sending
abbrev pub report_at_format : Format ReportAt
report_at_format = named (λ n. record { d_loc = n.0; q_lgtloc = n.1 }) (λ p. (p.d_loc, p.q_lgtloc)) (number D_LOC ⊗ flag Q_LGTLOC)

-- the first fault of a place of a report, in the order of the variables
abbrev pub report_at_fault : ReportAt → Option BuildFault
report_at_fault = fault report_at_format
