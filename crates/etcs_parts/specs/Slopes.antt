-- A change of gradient, of packet 21 (SUBSET-026, 7.4.2).
use Rattle.std.proofs.Common.{ℕ, Bool, Option}
use Rattle.etcs_vars.specs.declared.var.Var.TheVariants.{D_GRADIENT, Q_GDIR, G_A}
use Rattle.etcs_vars.specs.declared.fault.BuildFault.{BuildFault}
use Rattle.etcs_bodies.specs.Formats.{Format, number, flag, ◌⊗◌, named, fault}
pub use Rattle.etcs_parts.specs.declared.slope.Slope.TheInside.{Inside as Slope}

-- a change of gradient of these numbers and parts, in the order of the constructor's
abbrev pub slope_value : ℕ → Bool → ℕ → Slope
slope_value d_gradient q_gdir g_a = record { d_gradient = d_gradient; q_gdir = q_gdir; g_a = g_a }

-- the format of a change of gradient: its variables in the order of sending
abbrev pub slope_format : Format Slope
slope_format =
    named (λ n. record { d_gradient = n.0; q_gdir = n.1.0; g_a = n.1.1 }) (λ p. (p.d_gradient, (p.q_gdir, p.g_a))) (
    number D_GRADIENT ⊗ flag Q_GDIR ⊗ number G_A)

-- the first fault of a change of gradient, in the order of the variables
abbrev pub slope_fault : Slope → Option BuildFault
slope_fault = fault slope_format
