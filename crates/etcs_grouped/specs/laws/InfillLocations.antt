-- Lemmas about specs/InfillLocations.antt.
use Rattle.std.proofs.Common.{◌≡◌, refl, Decides}
use Rattle.etcs_tables.specs.declared.row.Way.TheVariants.{ToTrain}
use Rattle.etcs_bodies.specs.Packets.{packet_from}
use Rattle.etcs_bodies.specs.PacketCodes.{PacketCodes}
use Rattle.etcs_bodies.specs.PacketFormats.{IsPacketOf, packet_reading, packet_left}
use Rattle.etcs_bodies.specs.laws.PacketFormats.{IsPacketFormat, codes_of_packet, exact_packet}
use Rattle.etcs_parts.specs.laws.BalisesAt.{balise_at_ok}
use Rattle.etcs_grouped.specs.InfillLocations.{InfillLocation, infill_location_packet}
use Rattle.etcs_grouped.specs.contracts.infill_location.InfillLocationPartialEq.TheImpl as infill_location_eq

pub infill_location_ok : IsPacketFormat infill_location_packet
infill_location_ok = record { again = λ p. refl; dir_is = λ dir b. refl; rest_is = λ dir b. refl; body = balise_at_ok; short = refl }

pub infill_location_codes : PacketCodes ToTrain 136 (λ (p : InfillLocation). p.dir) (IsPacketOf infill_location_packet) (packet_reading infill_location_packet) (packet_from (packet_left infill_location_packet))
infill_location_codes = codes_of_packet infill_location_packet infill_location_ok 136 refl

pub infill_location_exact : (a b : InfillLocation) → Decides (infill_location_eq.ghosts.eq a b) (a ≡ b)
infill_location_exact = exact_packet infill_location_packet infill_location_ok
