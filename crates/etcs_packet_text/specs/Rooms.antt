-- Packets that the bits of a room spell (SUBSET-026, 7.4 and 8).
use Rattle.std.specs.Prelude.{◌≡◌, ℕ, ◌+◌, ◌-◌, Bool, List}
use Rattle.etcs_bits.specs.Bits.{part}
use Rattle.etcs_rows.specs.declared.frames.Carrier.{Carrier}
use Rattle.etcs_packets.specs.PacketValues.{PacketValue}
use Rattle.etcs_sequence.specs.AtOnce.{RunAt}

-- a room of these bits, from this one on, has exactly these packets with what closes them, and these bits after that
pub record RoomHas (c : Carrier) (room : ℕ) (xs : List Bool) (at : ℕ) (vs : List PacketValue) (after : List Bool) : Type 0 where
  pub left : ℕ
  pub run : RunAt c room (λ us f k. us ≡ vs) xs at left
  pub after_is : after ≡ part (at + (room - left)) left xs
