-- Packet 15, the movement authority of levels 2 and 3 (SUBSET-026, 7.4.2).
use Rattle.std.proofs.Common.{ℕ, Option}
use Rattle.etcs_vars.specs.declared.var.Var.TheVariants.{Q_SCALE, V_LOA, T_LOA}
use Rattle.etcs_vars.specs.declared.fault.BuildFault.{BuildFault}
use Rattle.etcs_bodies.specs.Formats.{number, ◌⊗◌, part}
use Rattle.etcs_bodies.specs.PacketFormats.{PacketFormat, packet_of, packet_fault}
use Rattle.etcs_parts.specs.declared.authority.Authority.{Authority}
use Rattle.etcs_parts.specs.Authorities.{authority_format}
pub use Rattle.etcs_grouped.specs.declared.level23_ma.Level23Ma.TheInside.{Inside as Level23Ma}

-- packet 15, of this direction and these numbers and parts, in the order of the constructor's
abbrev pub level23_ma_value : ℕ → ℕ → ℕ → ℕ → Authority → Level23Ma
level23_ma_value dir q_scale v_loa t_loa authority = record { dir = dir; q_scale = q_scale; v_loa = v_loa; t_loa = t_loa; authority = authority }

-- the format of packet 15: its direction, and its variables after L_PACKET in the order of sending
abbrev pub level23_ma_packet : PacketFormat (ℕ × (ℕ × (ℕ × Authority))) Level23Ma
level23_ma_packet =
    packet_of (λ p. p.dir)
    (λ p. (p.q_scale, (p.v_loa, (p.t_loa, p.authority))))
    (λ dir b. record { dir = dir; q_scale = b.0; v_loa = b.1.0; t_loa = b.1.1.0; authority = b.1.1.1 }) (
    number Q_SCALE ⊗ number V_LOA ⊗ number T_LOA ⊗ part authority_format)

-- the first fault of packet 15: the direction, then its numbers in the order of the variables; the authority
-- isn't looked at again
abbrev pub level23_ma_fault : Level23Ma → Option BuildFault
level23_ma_fault = packet_fault level23_ma_packet
