-- Lemmas about specs/ConditionalLevelOrders.antt.
use Rattle.std.proofs.Common.{◌≡◌, refl, Decides}
use Rattle.etcs_tables.specs.declared.row.Way.TheVariants.{ToTrain}
use Rattle.etcs_bodies.specs.Packets.{packet_from}
use Rattle.etcs_bodies.specs.PacketCodes.{PacketCodes}
use Rattle.etcs_bodies.specs.PacketFormats.{IsPacketOf, packet_reading, packet_left}
use Rattle.etcs_bodies.specs.laws.PacketFormats.{IsPacketFormat, codes_of_packet, exact_packet}
use Rattle.etcs_parts.specs.laws.Levels.{level_ok}
use Rattle.etcs_grouped.specs.ConditionalLevelOrders.{ConditionalLevelOrderValue, conditional_level_order_packet}
use Rattle.etcs_grouped.specs.contracts.conditional_level_order.ConditionalLevelOrderPartialEq.TheImpl as conditional_level_order_eq

pub conditional_level_order_ok : IsPacketFormat conditional_level_order_packet
conditional_level_order_ok = record { again = λ p. refl; dir_is = λ dir b. refl; rest_is = λ dir b. refl; body = (level_ok, level_ok); short = refl }

pub conditional_level_order_codes : PacketCodes ToTrain 46 (λ (p : ConditionalLevelOrderValue). p.dir) (IsPacketOf conditional_level_order_packet) (packet_reading conditional_level_order_packet) (packet_from (packet_left conditional_level_order_packet))
conditional_level_order_codes = codes_of_packet conditional_level_order_packet conditional_level_order_ok 46 refl

pub conditional_level_order_exact : (a b : ConditionalLevelOrderValue) → Decides (conditional_level_order_eq.ghosts.eq a b) (a ≡ b)
conditional_level_order_exact = exact_packet conditional_level_order_packet conditional_level_order_ok
