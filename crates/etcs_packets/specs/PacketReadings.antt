-- The variables of a packet with its frame, in the order of sending (SUBSET-026, 7.4).
use Rattle.std.proofs.Common.{ℕ, ◌+◌, List, [], ◌∷◌, length}
use Rattle.std.specs.Prelude.{flat_map}
use Rattle.etcs_vars.specs.declared.var.Var.TheVariants.{NID_PACKET, NID_VBCMK, L_PACKET, OTHER_DATA}
use Rattle.etcs_vars.specs.Reading.{Reading, spelled}
use Rattle.etcs_vars.specs.Reading as sent
use Rattle.etcs_tables.specs.declared.row.Way.{Way}
use Rattle.etcs_tables.specs.declared.row.Way.TheVariants.{ToTrain}
use Rattle.etcs_tables.specs.Frames.{frame_bits, directed}
use Rattle.etcs_packets.specs.PacketValues.{PacketValue, marker, typed, kept}

-- NID_PACKET, Q_DIR to the train alone, and L_PACKET of a packet with this many bits after its frame, before others
abbrev pub in_frame : Way → ℕ → ℕ → ℕ → Reading → Reading
in_frame way nid dir bits r = (NID_PACKET, nid) ∷ directed way dir ((L_PACKET, frame_bits way + bits) ∷ r)

-- a packet's variables one way, in the order of sending: NID_PACKET and NID_VBCMK of packet 0; else NID_PACKET, Q_DIR
-- to the train alone, L_PACKET (the bits of the frame and those after it), and the row's variables or OTHER_DATA bit by
-- bit
abbrev pub reading_to : Way → PacketValue → Reading
reading_to way (marker n) = (NID_PACKET, 0) ∷ (NID_VBCMK, n) ∷ []
reading_to way (typed nid dir r) = in_frame way nid dir (length (spelled r)) r
reading_to way (kept nid dir b) = in_frame way nid dir (length b) (sent.kept OTHER_DATA b)

-- the variables of packets one after another, one way
abbrev pub readings_to : Way → List PacketValue → Reading
readings_to way vs = flat_map (reading_to way) vs

-- ---- To the train, as all packets of this crate.

-- the frame of a packet to the train with this many bits after it: NID_PACKET, Q_DIR and L_PACKET
abbrev pub frame : ℕ → ℕ → ℕ → Reading
frame nid dir bits = in_frame ToTrain nid dir bits []

-- a packet's variables to the train, in the order of sending: NID_PACKET and NID_VBCMK of packet 0; else NID_PACKET,
-- Q_DIR, L_PACKET (23 and the bits after it), and the row's variables or OTHER_DATA bit by bit
abbrev pub packet_reading : PacketValue → Reading
packet_reading v = reading_to ToTrain v

-- the variables of packets to the train, one after another
abbrev pub packets_reading : List PacketValue → Reading
packets_reading vs = readings_to ToTrain vs
