-- Packet 136, where the infill that follows begins (SUBSET-026, 7.4.2).
use Rattle.std.proofs.Common.{ℕ, Option}
use Rattle.etcs_vars.specs.declared.fault.BuildFault.{BuildFault}
use Rattle.etcs_bodies.specs.PacketFormats.{PacketFormat, packet_of, packet_fault}
use Rattle.etcs_parts.specs.declared.balise_at.BaliseAt.{BaliseAt}
use Rattle.etcs_parts.specs.BalisesAt.{balise_at_value, balise_at_format}
pub use Rattle.etcs_grouped.specs.declared.infill_location.InfillLocation.TheInside.{Inside as InfillLocation}

-- packet 136, of this direction and these numbers and parts, in the order of the constructor's
abbrev pub infill_location_value : ℕ → Option ℕ → ℕ → InfillLocation
infill_location_value dir nid_c nid_bg = record { dir = dir; balise = balise_at_value nid_c nid_bg }

-- the format of packet 136: its direction, and its variables after L_PACKET in the order of sending
abbrev pub infill_location_packet : PacketFormat BaliseAt InfillLocation
infill_location_packet =
    packet_of (λ p. p.dir) (λ p. p.balise) (λ dir b. record { dir = dir; balise = b }) balise_at_format

-- the first fault of packet 136: the direction, NID_C if it is there, then NID_BG
abbrev pub infill_location_fault : InfillLocation → Option BuildFault
infill_location_fault = packet_fault infill_location_packet
