-- Packets one after another in a room of this many bits, up to what closes them: packet 255 in a telegram, padding in
-- a message (SUBSET-026, 7.4 and 8).
use Rattle.std.specs.Prelude.{◌≡◌, ℕ, ◌+◌, ◌-◌, ◌≤◌, ◌<◌, ◌^◌, Bool, List, [], ◌∷◌, ◌++◌, length, IsTrue, Some, All, ◌⊎◌}
use Rattle.etcs_vars.specs.declared.var.Var.TheVariants.{NID_PACKET, NID_VBCMK, Q_DIR, L_PACKET, OTHER_DATA}
use Rattle.etcs_vars.specs.Vars.{admits}
use Rattle.etcs_vars.specs.Reading.{Reading, Then, spelled, kept}
use Rattle.etcs_tables.specs.declared.row.Way.{Way}
use Rattle.etcs_tables.specs.declared.row.Way.TheVariants.{ToTrain, ToTrack}
use Rattle.etcs_tables.specs.Layouts.{Layout, ReadsIn}
use Rattle.etcs_tables.specs.Rows.{row_to}
use Rattle.etcs_tables.specs.Frames.{frame_bits, is_framed, is_kept, is_direction, sends, directed}
use Rattle.etcs_rows.specs.declared.frames.Carrier.{Carrier}
use Rattle.etcs_rows.specs.declared.frames.Carrier.TheVariants.{Telegram, Message}
use Rattle.etcs_rows.specs.Frames.{way_of}
use Rattle.etcs_packets.specs.PacketValues.{PacketValue, nid_of, IsPacketTo}
use Rattle.etcs_packets.specs.PacketReadings.{readings_to}

-- what closes the packets: NID_PACKET 255 in a telegram, nothing in a message
abbrev pub closing : Carrier → Reading
closing Telegram = (NID_PACKET, 255) ∷ []
closing (Message way) = []

-- packets of this many bits, with what closes them, fit the room; in a message at most 7 bits are left
abbrev pub Fills : Carrier → ℕ → ℕ → Type 0
Fills Telegram room bits = bits ≤ room
Fills (Message way) room bits = (bits ≤ room) × (room ≤ bits + 7)

-- the number of a packet that isn't packet 0 of telegrams
abbrev pub IsUnmarked : Way → ℕ → Type 0
IsUnmarked ToTrain nid = 0 < nid
IsUnmarked ToTrack nid = Unit {0}

-- there is such a packet one way, and packet 0 without a frame is in telegrams alone
abbrev pub Carries : Carrier → PacketValue → Type 0
Carries Telegram v = IsPacketTo ToTrain v
Carries (Message way) v = IsPacketTo way v × IsUnmarked way (nid_of v)

-- r are the variables of the packets vs one after another, with what closes them, and they fill the room
pub record ReadsPackets (c : Carrier) (room : ℕ) (vs : List PacketValue) (r : Reading) : Type 0 where
  pub carried : All (Carries c) vs
  pub reading_is : r ≡ readings_to (way_of c) vs ++ closing c
  pub fills : Fills c room (length (spelled r))

-- the variables of some packets, with what closes them, that fill the room
abbrev pub PacketsIn : Carrier → ℕ → Reading → Type 0
PacketsIn c room r = (vs : List PacketValue) × ReadsPackets c room vs r

-- ---- What is left of it after some of its variables.

-- this many bits of OTHER_DATA
abbrev pub KeptIn : ℕ → Reading → Type 0
KeptIn bits r = (b : List Bool) × (length b ≡ bits) × (r ≡ kept OTHER_DATA b)

-- this many bits after the frame of a packet of this number: a row's variables, or OTHER_DATA if it is kept
abbrev pub BodyIn : Way → ℕ → ℕ → Reading → Type 0
BodyIn way nid bits r = ((row : Layout) × (row_to way nid ≡ Some row) × ReadsIn row bits r) ⊎ (IsTrue (is_kept way nid) × KeptIn bits r)

-- this many bits after a packet's frame, and packets in a room after them
abbrev pub BodyLeft : Carrier → ℕ → ℕ → ℕ → Reading → Type 0
BodyLeft c nid bits room = Then (BodyIn (way_of c) nid bits) (PacketsIn c room)

-- The room counts from the packet's first bit until its length is known.

-- what is left after this number l of L_PACKET, of a packet of this number
abbrev pub AfterLength : Carrier → ℕ → ℕ → ℕ → Reading → Type 0
AfterLength c nid room l r = (frame_bits (way_of c) ≤ l) × (l < 2 ^ 13) × (l ≤ room) × BodyLeft c nid (l - frame_bits (way_of c)) (room - l) r

-- what is left from L_PACKET on, of a packet of this number
abbrev pub LengthLeft : Carrier → ℕ → ℕ → Reading → Type 0
LengthLeft c nid room r = (l : ℕ) × (rest : Reading) × (r ≡ (L_PACKET, l) ∷ rest) × AfterLength c nid room l rest

-- what is left after this number of Q_DIR
abbrev pub AfterDirection : Carrier → ℕ → ℕ → ℕ → Reading → Type 0
AfterDirection c nid room dir r = IsTrue (sends (way_of c) dir) × LengthLeft c nid room r

-- what is left from Q_DIR on
abbrev pub DirectionLeft : Carrier → ℕ → ℕ → Reading → Type 0
DirectionLeft c nid room r = (dir : ℕ) × (rest : Reading) × (r ≡ (Q_DIR, dir) ∷ rest) × AfterDirection c nid room dir rest

-- what is left after NID_PACKET of a packet that has a frame
abbrev pub FrameLeft : Carrier → ℕ → ℕ → Reading → Type 0
FrameLeft c nid room r = (dir : ℕ) × (rest : Reading) × (r ≡ directed (way_of c) dir rest) × IsTrue (is_direction (way_of c) dir) × LengthLeft c nid room rest

-- what is left after this number of NID_VBCMK
abbrev pub AfterMarker : ℕ → ℕ → Reading → Type 0
AfterMarker room n r = IsTrue (admits NID_VBCMK n) × (14 ≤ room) × PacketsIn Telegram (room - 14) r

-- what is left from NID_VBCMK on
abbrev pub MarkerLeft : ℕ → Reading → Type 0
MarkerLeft room r = (n : ℕ) × (rest : Reading) × (r ≡ (NID_VBCMK, n) ∷ rest) × AfterMarker room n rest

-- what is left after this number of NID_PACKET: in a telegram nothing after 255 and NID_VBCMK after 0, else a frame
abbrev pub AfterNumber : Carrier → ℕ → ℕ → Reading → Type 0
AfterNumber c room n r = ((c ≡ Telegram) × (n ≡ 255) × (8 ≤ room) × (r ≡ [])) ⊎ (((c ≡ Telegram) × (n ≡ 0) × MarkerLeft room r) ⊎ (IsTrue (is_framed (way_of c) n) × FrameLeft c n room r))

-- more packets come, or packet 255, in a room of this many bits
abbrev pub IsOpen : Carrier → ℕ → Type 0
IsOpen Telegram room = Unit {0}
IsOpen (Message way) room = 7 < room
