-- Packets 49 and 63, lists of balise groups (SUBSET-026, 7.4.2).
use Rattle.std.proofs.Common.{◌≡◌, ℕ, List, Option, Some, None}
use Rattle.std.specs.Prelude.{◌==◌, if◌then◌else◌}
use Rattle.etcs_vars.specs.declared.var.Var.TheVariants.{NID_PACKET, N_ITER}
use Rattle.etcs_vars.specs.declared.fault.BuildFault.{BuildFault}
use Rattle.etcs_vars.specs.declared.fault.BuildFault.TheVariants.{NotAdmitted}
use Rattle.etcs_vars.specs.Faults.{◌or_else◌}
use Rattle.etcs_bodies.specs.Formats.{listed}
use Rattle.etcs_bodies.specs.PacketFormats.{PacketFormat, packet_of, packet_fault, IsPacketOf}
use Rattle.etcs_parts.specs.declared.balise_at.BaliseAt.{BaliseAt}
use Rattle.etcs_parts.specs.BalisesAt.{balise_at_format}

-- a list of balise groups: its direction and its numbers and parts
pub record BaliseListValue : Type 0 where
  pub dir : ℕ
  pub balises : List BaliseAt

-- a list of balise groups, of this direction and these numbers and parts, in the order of the constructor's
abbrev pub balise_list_value : ℕ → List BaliseAt → BaliseListValue
balise_list_value dir balises = record { dir = dir; balises = balises }

-- the format of a list of balise groups: its direction, and its variables after L_PACKET in the order of sending
abbrev pub balise_list_packet : PacketFormat (List BaliseAt) BaliseListValue
balise_list_packet =
    packet_of (λ p. p.dir) (λ p. p.balises) (λ dir b. record { dir = dir; balises = b }) (
    listed N_ITER balise_at_format)

-- NID_PACKET, if the number is neither 49 nor 63
abbrev pub nid_fault : ℕ → Option BuildFault
nid_fault nid = if nid == 49 then None else if nid == 63 then None else Some (NotAdmitted NID_PACKET)

-- the first fault of a list of balise groups: a number that is neither 49 nor 63, the direction, then the
-- count of groups; the groups aren't looked at again
abbrev pub balise_list_fault : ℕ → BaliseListValue → Option BuildFault
balise_list_fault nid p = nid_fault nid or_else packet_fault balise_list_packet p

-- nothing is wrong with a list of balise groups, nor with any part inside it
abbrev pub IsBaliseList : ℕ → BaliseListValue → Type 0
IsBaliseList nid p = (nid_fault nid ≡ None) × IsPacketOf balise_list_packet p
