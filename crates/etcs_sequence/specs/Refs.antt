-- Packets in bytes that aren't copied: each is the bits that it spells (SUBSET-026, 7.4).
use Rattle.std.specs.Prelude.{◌≡◌, ℕ, zero, suc, Bool, List, [], ◌∷◌, ◌++◌, length, take, drop, map, All, ◌==◌, if◌then◌else◌}
use Rattle.etcs_bits.specs.Bits.{value, part}
use Rattle.etcs_vars.specs.Reading.{Reading, spelled}
use Rattle.etcs_packets.specs.PacketValues.{PacketValue, marker, typed, kept, IsPacket}
use Rattle.etcs_packets.specs.PacketReadings.{packet_reading, packets_reading}

-- these bits are one packet's
abbrev pub IsPacketBits : List Bool → Type 0
IsPacketBits b = (v : PacketValue) × IsPacket v × (spelled (packet_reading v) ≡ b)

-- these bits are n packets one after another, and anything after them
abbrev pub ArePackets : ℕ → List Bool → Type 0
ArePackets n b = (vs : List PacketValue) × (c : List Bool) × All IsPacket vs × (length vs ≡ n) × (b ≡ spelled (packets_reading vs) ++ c)

-- the spelling of each packet to the train, in order
abbrev pub spellings : List PacketValue → List (List Bool)
spellings vs = map (λ v. spelled (packet_reading v)) vs

-- ---- By the lengths in the bits themselves.

-- how many bits the packet takes that these begin with: 14 of packet 0, else the number of L_PACKET
abbrev pub bits_ahead : List Bool → ℕ
bits_ahead b = if value (part 0 8 b) == 0 then 14 else value (part 10 13 b)

-- the bits of each of the first n packets, in order, by the lengths in the bits themselves
abbrev pub refs : ℕ → List Bool → List (List Bool)
refs zero b = []
refs (suc n) b = take (bits_ahead b) b ∷ refs n (drop (bits_ahead b) b)

-- these bits begin with a packet
abbrev pub BeginsWithPacket : List Bool → Type 0
BeginsWithPacket b = (v : PacketValue) × (c : List Bool) × IsPacket v × (b ≡ spelled (packet_reading v) ++ c)

-- ---- By the kind of the packet.

-- these bits are packet 0's
abbrev pub IsMarkerBits : List Bool → Type 0
IsMarkerBits b = (n : ℕ) × IsPacket (marker n) × (spelled (packet_reading (marker n)) ≡ b)

-- these bits are those of a typed packet of this number
abbrev pub IsTypedBits : ℕ → List Bool → Type 0
IsTypedBits nid b = (dir : ℕ) × (r : Reading) × IsPacket (typed nid dir r) × (spelled (packet_reading (typed nid dir r)) ≡ b)

-- these bits are those of a kept packet of this number
abbrev pub IsKeptBits : ℕ → List Bool → Type 0
IsKeptBits nid b = (dir : ℕ) × (body : List Bool) × IsPacket (kept nid dir body) × (spelled (packet_reading (kept nid dir body)) ≡ b)
