-- A linked balise group, of packet 5 (SUBSET-026, 7.4.2).
use Rattle.std.proofs.Common.{ℕ, Bool, Option}
use Rattle.etcs_vars.specs.declared.var.Var.TheVariants.{D_LINK, Q_LINKORIENTATION, Q_LINKREACTION, Q_LOCACC}
use Rattle.etcs_vars.specs.declared.fault.BuildFault.{BuildFault}
use Rattle.etcs_bodies.specs.Formats.{Format, number, flag, ◌⊗◌, named, fault}
use Rattle.etcs_parts.specs.BalisesAt.{balise_at_value, balise_at_format}
pub use Rattle.etcs_parts.specs.declared.link.Link.TheInside.{Inside as Link}

-- a linked balise group of these numbers and parts, in the order of the constructor's
abbrev pub link_value : ℕ → Option ℕ → ℕ → Bool → ℕ → ℕ → Link
link_value d_link nid_c nid_bg q_linkorientation q_linkreaction q_locacc =
    record { d_link = d_link; balise = balise_at_value nid_c nid_bg; q_linkorientation = q_linkorientation; q_linkreaction = q_linkreaction; q_locacc = q_locacc }

-- the format of a linked balise group: its variables in the order of sending
abbrev pub link_format : Format Link
link_format =
    named
    (λ n. record { d_link = n.0; balise = n.1.0; q_linkorientation = n.1.1.0; q_linkreaction = n.1.1.1.0; q_locacc = n.1.1.1.1 })
    (λ l. (l.d_link, (l.balise, (l.q_linkorientation, (l.q_linkreaction, l.q_locacc))))) (
    number D_LINK ⊗ balise_at_format ⊗ flag Q_LINKORIENTATION ⊗ number Q_LINKREACTION ⊗ number Q_LOCACC)

-- the first fault of a linked balise group, in the order of the variables
abbrev pub link_fault : Link → Option BuildFault
link_fault = fault link_format
