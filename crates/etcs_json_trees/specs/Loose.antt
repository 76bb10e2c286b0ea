-- Packets in JSON that was stored when fewer packets were typed: one to the train that is typed by now may be kept as bits
-- there. To the track nothing was stored like that.
use Rattle.std.specs.Prelude.{◌≡◌, ℕ, ◌+◌, ◌≤◌, ◌==◌, ◌||◌, Bool, false, List, length, if◌then◌else◌}
use Rattle.etcs_vars.specs.Reading.{Reading, spelled}
use Rattle.etcs_tables.specs.declared.row.Way.{Way}
use Rattle.etcs_tables.specs.declared.row.Way.TheVariants.{ToTrain, ToTrack}
use Rattle.etcs_packets.specs.PacketValues as packet
use Rattle.etcs_packets.specs.PacketValues.{PacketValue, marker, typed, IsPacketTo}
use Rattle.etcs_json_trees.specs.PacketTexts.{IsUnmarked}

-- the number is one of the seven of packets that older JSON may have as bits; to the track there are none
abbrev pub is_carried : Way → ℕ → Bool
is_carried ToTrain nid = nid == 49 || nid == 57 || nid == 58 || nid == 63 || nid == 68 || nid == 80 || nid == 131
is_carried ToTrack nid = false

-- 44 for such a number, else the number itself: all packets that are kept as bits have one frame
abbrev pub stand_in : Way → ℕ → ℕ
stand_in way nid = if is_carried way nid then 44 else nid

-- the packet with a stand-in for its number if it is kept as bits
abbrev pub unnamed : Way → PacketValue → PacketValue
unnamed way (marker n) = marker n
unnamed way (typed nid dir r) = typed nid dir r
unnamed way (packet.kept nid dir b) = packet.kept (stand_in way nid) dir b

-- there is such a packet one way, where one that is kept as bits may have one of the seven numbers; it is packet 0 without a
-- frame only if there may be one
abbrev pub IsLoosePacket : Way → Bool → PacketValue → Type 0
IsLoosePacket way has_marker v = IsPacketTo way (unnamed way v) × (has_marker ≡ false → IsUnmarked v)

-- an item has room for these variables after the bits b
abbrev pub HasRoom : List Bool → Reading → Type 0
HasRoom b r = length b + length (spelled r) ≤ 8184
