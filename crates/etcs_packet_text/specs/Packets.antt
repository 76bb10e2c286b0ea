-- The text of packets: a line for each, one for each of its variables, and one for bits that are kept (SUBSET-026,
-- 7.4).
use Rattle.std.specs.Prelude.{ℕ, ◌+◌, List, [], ◌∷◌, ◌++◌, length, flat_map, codes}
use Rattle.std.specs.Fmt.{decimal}
use Rattle.etcs_vars.specs.declared.var.Var.TheVariants.{NID_VBCMK, L_PACKET}
use Rattle.etcs_vars.specs.Reading.{spelled}
use Rattle.etcs_tables.specs.declared.row.Way.{Way}
use Rattle.etcs_tables.specs.Frames.{frame_bits, directed}
use Rattle.etcs_packets.specs.PacketValues.{PacketValue, marker, typed, kept, nid_of}
use Rattle.etcs_packet_text.specs.Show.{variable_line, bits_line}

-- the line of a packet's number
abbrev pub packet_line : ℕ → List ℕ
packet_line nid = codes "packet " ++ decimal nid ++ codes "\n"

-- Q_DIR, which is sent to the train alone, and L_PACKET; packet 0 without a frame has neither
abbrev pub frame_lines : Way → PacketValue → List ℕ
frame_lines way (marker n) = []
frame_lines way (typed nid dir r) = flat_map variable_line (directed way dir ((L_PACKET, frame_bits way + length (spelled r)) ∷ []))
frame_lines way (kept nid dir b) = flat_map variable_line (directed way dir ((L_PACKET, frame_bits way + length b) ∷ []))

-- what follows them: a line for each variable, or one for the bits that are kept
abbrev pub body_lines : PacketValue → List ℕ
body_lines (marker n) = variable_line (NID_VBCMK, n)
body_lines (typed nid dir r) = flat_map variable_line r
body_lines (kept nid dir b) = bits_line (codes "OTHER_DATA") b

-- the text of a packet: a line with its number, lines of Q_DIR and L_PACKET but for packet 0, and a line for each
-- variable, or one for the kept bits
abbrev pub packet_text : Way → PacketValue → List ℕ
packet_text way v = packet_line (nid_of v) ++ frame_lines way v ++ body_lines v

-- the text of packets one after another
abbrev pub packets_text : Way → List PacketValue → List ℕ
packets_text way vs = flat_map (packet_text way) vs
