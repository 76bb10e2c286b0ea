-- A speed of packet 27, with the speeds for some trains that differ from it (SUBSET-026, 7.4.2).
use Rattle.std.proofs.Common.{ℕ, Bool, List, Option}
use Rattle.etcs_vars.specs.declared.var.Var.TheVariants.{D_STATIC, V_STATIC, Q_FRONT, N_ITER}
use Rattle.etcs_vars.specs.declared.fault.BuildFault.{BuildFault}
use Rattle.etcs_bodies.specs.Formats.{Format, number, flag, ◌⊗◌, listed, named, fault}
use Rattle.etcs_parts.specs.Differings.{Differing, differing_format}
pub use Rattle.etcs_parts.specs.declared.speed.Speed.TheInside.{Inside as Speed}

-- a speed with those that differ from it of these numbers and parts, in the order of the constructor's
abbrev pub speed_value : ℕ → ℕ → Bool → List Differing → Speed
speed_value d_static v_static q_front differing = record { d_static = d_static; v_static = v_static; q_front = q_front; differing = differing }

-- the format of a speed with those that differ from it: its variables in the order of sending
abbrev pub speed_format : Format Speed
speed_format =
    named
    (λ n. record { d_static = n.0; v_static = n.1.0; q_front = n.1.1.0; differing = n.1.1.1 })
    (λ s. (s.d_static, (s.v_static, (s.q_front, s.differing)))) (
    number D_STATIC ⊗ number V_STATIC ⊗ flag Q_FRONT ⊗ listed N_ITER differing_format)

-- the first fault of a speed, in the order of the variables; its entries aren't looked at again
abbrev pub speed_fault : Speed → Option BuildFault
speed_fault = fault speed_format
