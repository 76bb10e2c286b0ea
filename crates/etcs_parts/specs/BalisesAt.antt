-- A balise group of packets 5, 49 and 63 (SUBSET-026, 7.4.2).
use Rattle.std.proofs.Common.{ℕ, Option}
use Rattle.etcs_vars.specs.declared.var.Var.TheVariants.{Q_NEWCOUNTRY, NID_C, NID_BG}
use Rattle.etcs_vars.specs.declared.fault.BuildFault.{BuildFault}
pub use Rattle.etcs_parts.specs.declared.balise_at.BaliseAt.TheInside.{Inside as BaliseAt}
use Rattle.etcs_bodies.specs.Formats.{Format, number, ◌⊗◌, optional, named, fault}

-- a balise group of a list of these numbers and parts, in the order of the constructor's
abbrev pub balise_at_value : Option ℕ → ℕ → BaliseAt
balise_at_value nid_c nid_bg = record { nid_c = nid_c; nid_bg = nid_bg }

-- the format of a balise group of a list: its variables in the order of sending
abbrev pub balise_at_format : Format BaliseAt
balise_at_format =
    named (λ n. record { nid_c = n.0; nid_bg = n.1 }) (λ p. (p.nid_c, p.nid_bg)) (
    optional Q_NEWCOUNTRY (number NID_C) ⊗ number NID_BG)

-- the first fault of a balise group of a list, in the order of the variables
abbrev pub balise_at_fault : BaliseAt → Option BuildFault
balise_at_fault = fault balise_at_format
