-- The frames of packets (SUBSET-026, 7.4). A packet begins with a frame: NID_PACKET, Q_DIR if it goes to the train, and
-- L_PACKET, which counts all of its bits. To the train packet 0 has NID_PACKET and NID_VBCMK alone, packet 255
-- NID_PACKET alone; to the track both numbers are those of packets like others.
use Rattle.std.specs.Prelude.{ℕ, ◌-◌, ◌==◌, Bool, false, ◌∷◌, ◌&&◌, not, nat_lt, is_some}
use Rattle.etcs_vars.specs.declared.var.Var.TheVariants.{Q_DIR, NID_VBCMK}
use Rattle.etcs_vars.specs.Vars.{admits}
use Rattle.etcs_vars.specs.Reading.{Reading}
use Rattle.etcs_tables.specs.declared.row.Way.{Way}
use Rattle.etcs_tables.specs.declared.row.Way.TheVariants.{ToTrain, ToTrack}
use Rattle.etcs_tables.specs.Rows.{row_to}

-- how many bits a packet's frame takes: to the train 23, NID_PACKET, Q_DIR and L_PACKET; to the track 21, without Q_DIR
abbrev pub frame_bits : Way → ℕ
frame_bits ToTrain = 23
frame_bits ToTrack = 21

-- how many bits of the frame are before L_PACKET
abbrev pub head_bits : Way → ℕ
head_bits ToTrain = 10
head_bits ToTrack = 8

-- the most bits that a packet may have after its frame: 8,191, the largest L_PACKET, less the frame
abbrev pub kept_limit : Way → ℕ
kept_limit way = 8191 - frame_bits way

-- packets of this number have a frame: to the train 1 to 254, to the track all of 8 bits
abbrev pub is_framed : Way → ℕ → Bool
is_framed ToTrain nid = nat_lt 0 nid && nat_lt nid 255
is_framed ToTrack nid = nat_lt nid 256

-- packets of this number are kept as bits, of any length: they have a frame and aren't typed
abbrev pub is_kept : Way → ℕ → Bool
is_kept way nid = is_framed way nid && not (is_some (row_to way nid))

-- packet 0 without a frame may have this number: to the train what NID_VBCMK admits, to the track none
abbrev pub is_marker : Way → ℕ → Bool
is_marker ToTrain n = admits NID_VBCMK n
is_marker ToTrack n = false

-- a packet may have this direction: to the train what Q_DIR admits, to the track 0, which isn't sent
abbrev pub is_direction : Way → ℕ → Bool
is_direction ToTrain dir = admits Q_DIR dir
is_direction ToTrack dir = dir == 0

-- Q_DIR sends this direction: to the train if it admits it, to the track never
abbrev pub sends : Way → ℕ → Bool
sends ToTrain dir = admits Q_DIR dir
sends ToTrack dir = false

-- the direction, if the way sends it, before the reading r
abbrev pub directed : Way → ℕ → Reading → Reading
directed ToTrain dir r = (Q_DIR, dir) ∷ r
directed ToTrack dir r = r
