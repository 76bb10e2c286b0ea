-- Lemmas about specs/LevelOrders.antt.
use Rattle.std.proofs.Common.{◌≡◌, ℕ, ◌+◌, ◌≤◌, length, refl, arith, Decides}
use Rattle.etcs_vars.specs.Reading.{spelled}
use Rattle.etcs_tables.specs.declared.row.Way.TheVariants.{ToTrain}
use Rattle.etcs_bodies.specs.Packets.{packet_from}
use Rattle.etcs_bodies.specs.PacketCodes.{PacketCodes}
use Rattle.etcs_bodies.specs.PacketFormats.{IsPacketOf, packet_reading, packet_left}
use Rattle.etcs_bodies.specs.Formats.{reading, entries}
use Rattle.etcs_bodies.specs.laws.PacketFormats.{IsPacketFormat, codes_of_packet, packet_most}
use Rattle.etcs_bodies.specs.laws.Equality.{number_exact, list_exact, both_exact, fields_exact}
use Rattle.etcs_parts.specs.LevelAcks.{level_ack_format}
use Rattle.etcs_parts.specs.laws.Levels.{level_ack_ok, level_ack_exact}
use Rattle.etcs_grouped.specs.laws.Fronts.{after_front}
use Rattle.etcs_grouped.specs.LevelOrders.{LevelOrderValue, level_order_value, level_order_packet}
use Rattle.etcs_grouped.specs.contracts.level_order.LevelOrderPartialEq.TheImpl as level_order_eq

pub level_order_ok : IsPacketFormat level_order_packet
level_order_ok = record { again = λ p. refl; dir_is = λ dir b. refl; rest_is = λ dir b. refl; body = (tt, (tt, (level_ack_ok, level_ack_ok))); short = refl }

pub level_order_codes : PacketCodes ToTrain 41 (λ (p : LevelOrderValue). p.dir) (IsPacketOf level_order_packet) (packet_reading level_order_packet) (packet_from (packet_left level_order_packet))
level_order_codes = codes_of_packet level_order_packet level_order_ok 41 refl

-- ---- Its bits.

pub level_order_length : (p : LevelOrderValue) (a : ℕ) → a ≡ length (spelled (reading (entries level_ack_format) (p.first, p.further))) → 17 + a ≡ length (spelled (packet_reading level_order_packet p))
level_order_length p a h = after_front (packet_reading level_order_packet p) (reading (entries level_ack_format) (p.first, p.further)) 17 a (omega arith) h

pub level_order_most : (p : LevelOrderValue) → IsPacketOf level_order_packet p → length (spelled (packet_reading level_order_packet p)) ≤ 854
level_order_most = packet_most level_order_packet

-- ---- Its `==`.

pub level_order_exact : (a b : LevelOrderValue) → Decides (level_order_eq.ghosts.eq a b) (a ≡ b)
level_order_exact =
    fields_exact (λ (p : LevelOrderValue). (p.dir, (p.q_scale, (p.d_leveltr, (p.first, p.further))))) (λ n. level_order_value n.0 n.1.0 n.1.1.0 n.1.1.1.0 n.1.1.1.1) (λ p. refl) (
    both_exact number_exact (both_exact number_exact (both_exact number_exact (both_exact level_ack_exact (list_exact level_ack_exact)))))
