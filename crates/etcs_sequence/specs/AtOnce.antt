-- Packets that lie whole in a piece, taken in one pass (SUBSET-026, 7.4 and 8).
use Rattle.std.specs.Prelude.{◌≡◌, ℕ, ◌+◌, ◌-◌, ◌/◌, ◌%◌, ◌^◌, ◌≤◌, ◌<◌, Bool, List, [], ◌∷◌, ◌++◌, length, All, IsTrue}
use Rattle.etcs_bits.specs.Bits.{num, part}
use Rattle.etcs_vars.specs.Reading.{Reading, spelled}
use Rattle.etcs_tables.specs.declared.row.Way.{Way}
use Rattle.etcs_tables.specs.declared.row.Way.TheVariants.{ToTrain, ToTrack}
use Rattle.etcs_tables.specs.Frames.{directed, frame_bits, head_bits}
use Rattle.etcs_rows.specs.declared.frames.Carrier.{Carrier}
use Rattle.etcs_rows.specs.Frames.{way_of, may_be_left}
use Rattle.etcs_packets.specs.PacketValues.{PacketValue, bits_to}
use Rattle.etcs_packets.specs.PacketReadings.{reading_to, readings_to}
use Rattle.etcs_sequence.specs.declared.run.Frame.{Frame}
use Rattle.etcs_sequence.specs.declared.run.Run.{Run}
use Rattle.etcs_sequence.specs.declared.run.Run.TheVariants as taken
use Rattle.etcs_sequence.specs.Contents.{closing, Carries, Fills, ReadsPackets}

-- what a store may hold: these packets, and of the next one these numbers or bits
abbrev pub Holds : Type 1
Holds = List PacketValue → List ℕ → List Bool → Type 0

-- the number, the direction (0 to the track) and the length in the first bits of a word
abbrev pub IsFrameIn : Way → ℕ → Frame → Type 0
IsFrameIn ToTrain word f = (f.nid ≡ word / 2 ^ 56) × (f.dir ≡ word / 2 ^ 54 % 4) × (f.len ≡ word / 2 ^ 41 % 2 ^ 13)
IsFrameIn ToTrack word f = (f.nid ≡ word / 2 ^ 56) × (f.dir ≡ 0) × (f.len ≡ word / 2 ^ 43 % 2 ^ 13)

-- the bits of a frame in a piece, from its first bit
pub record FrameAt (way : Way) (nid dir l at : ℕ) (xs : List Bool) : Type 0 where
  pub least : frame_bits way ≤ l
  pub number : num 8 nid ≡ part at 8 xs
  pub direction : spelled (directed way dir []) ≡ part (at + 8) (head_bits way - 8) xs
  pub long : num 13 l ≡ part (at + head_bits way) 13 xs

-- l bits of a piece from at on are a packet's spelling, and H' holds what H holds with this packet after it
pub record WholeAt (c : Carrier) (H H' : Holds) (xs : List Bool) (at l : ℕ) : Type 0 where
  pub packet : PacketValue
  pub carried : Carries c packet
  pub bits : spelled (reading_to (way_of c) packet) ≡ part at l xs
  pub long : bits_to (way_of c) packet ≡ l
  pub held : (vs : List PacketValue) → H vs [] [] → H' (vs ++ packet ∷ []) [] []

-- the packet of this number, direction and bits after its frame: wherever its bits lie, H' holds what H holds with it
-- after it
abbrev pub IsPut : Way → ℕ → ℕ → List Bool → Holds → Holds → Type 0
IsPut way nid dir body H H' =
    (c : Carrier) (xs : List Bool) (at l : ℕ) → way_of c ≡ way → FrameAt (way_of c) nid dir l at xs → at + l ≤ length xs → body ≡ part (at + frame_bits (way_of c)) (l - frame_bits (way_of c)) xs → WholeAt c H H' xs at l

-- the variables of these packets, with what closes them
abbrev pub run_reading : Carrier → List PacketValue → Reading
run_reading c vs = readings_to (way_of c) vs ++ closing c

-- the bits of a piece from at on are those of all packets in a room, with what closes them, which leave this many bits
-- of it, and H holds the packets
pub record RunAt (c : Carrier) (room : ℕ) (H : Holds) (xs : List Bool) (at left : ℕ) : Type 0 where
  pub packets : List PacketValue
  pub held : H packets [] []
  pub run : ReadsPackets c room packets (run_reading c packets)
  pub within : left ≤ room
  pub long : length (spelled (run_reading c packets)) + left ≡ room
  pub bits : spelled (run_reading c packets) ≡ part at (room - left) xs

-- the bits of a piece from at on are those of whole packets, which leave this many bits of the room, and H holds them
pub record RunTo (c : Carrier) (room : ℕ) (H : Holds) (xs : List Bool) (at left : ℕ) : Type 0 where
  pub packets : List PacketValue
  pub held : H packets [] []
  pub carried : All (Carries c) packets
  pub within : left ≤ room
  pub long : length (spelled (readings_to (way_of c) packets)) + left ≡ room
  pub bits : spelled (readings_to (way_of c) packets) ≡ part at (room - left) xs

-- the bits of a piece from at on begin with packets of the room, which H holds: fewer bits of the room than all are
-- left after them, as may be left there, so that others may come, or what closes them
abbrev pub RunFirst : Carrier → ℕ → Holds → List Bool → ℕ → ℕ → Type 0
RunFirst c room H xs at left = RunTo c room H xs at left × (left < room) × IsTrue (may_be_left c left)

-- how far the packets of a room were taken from at on: all of them with what closes them, or the first of them
abbrev pub RunIs : Carrier → ℕ → Holds → List Bool → ℕ → Run → Type 0
RunIs c room H xs at (taken.All left) = RunAt c room H xs at left
RunIs c room H xs at (taken.First left) = RunFirst c room H xs at left

-- what closes the packets comes next at this place, if this many bits of their room are left
abbrev pub ClosesAt : Carrier → ℕ → List Bool → ℕ → Type 0
ClosesAt c left xs at = Fills c left (length (spelled (closing c))) × (spelled (closing c) ≡ part at (length (spelled (closing c))) xs)
