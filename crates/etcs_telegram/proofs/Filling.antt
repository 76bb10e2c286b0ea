-- What packets leave to FILL.
use Rattle.std.proofs.Common.{◌≡◌, ℕ, ◌+◌, ◌-◌, ◌<◌, ◌≤◌, List, length, map, Some, None, arith}
use Rattle.std.specs.Prelude.{Option, IfSome, IfNone}
use Rattle.etcs_vars.specs.Reading.{spelled}
use Rattle.etcs_packets.specs.declared.packet.Packet.{Packet}
use Rattle.etcs_packets.specs.PacketValues.{packet_value}
use Rattle.etcs_packets.specs.PacketReadings.{packets_reading}
use Rattle.etcs_telegram.specs.declared.size.Size.{Size}
use Rattle.etcs_telegram.specs.declared.size.Size.TheVariants.{Short, Long}
use Rattle.etcs_telegram.specs.Telegrams.{closed_bits, packet_room}
use Rattle.etcs_telegram.proofs.Encoding.{closed_length}

-- packet 255 has room
pub room_closed : (size : Size) → 8 ≤ packet_room size
room_closed Short = omega arith
room_closed Long = omega arith

closed_count : (ps : List Packet) → closed_bits ps ≡ length (spelled (packets_reading (map packet_value ps))) + 8
closed_count ps = closed_length (map packet_value ps)

module _ (size : Size) (ps : List Packet) (room : ℕ) (e : room ≡ packet_room size - 8) where
  pub fill_some : (o : Option ℕ) → IfSome o (λ left. length (spelled (packets_reading (map packet_value ps))) + left ≡ room) → IfSome o (λ left. closed_bits ps + left ≡ packet_room size)
  fill_some None h = tt
  fill_some (Some left) h = omega (arith, closed_count ps, room_closed size, e, h)

  pub fill_none : (o : Option ℕ) → IfNone o (room < length (spelled (packets_reading (map packet_value ps)))) → IfNone o (packet_room size < closed_bits ps)
  fill_none None h = omega (arith, closed_count ps, room_closed size, e, h)
  fill_none (Some left) h = tt
