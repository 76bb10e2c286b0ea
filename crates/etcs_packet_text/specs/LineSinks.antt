-- What a sink of lines holds: a text, with a line for each variable that it took.
use Rattle.std.proofs.Common.{ℕ, List, [], ◌∷◌, ◌++◌, flat_map, Option, Some, None}
use Rattle.etcs_vars.specs.declared.var.Var.TheVariants.{L_PACKET}
use Rattle.etcs_vars.specs.Reading.{Reading}
use Rattle.etcs_tables.specs.declared.row.Way.{Way}
use Rattle.etcs_tables.specs.Frames.{directed}
use Rattle.etcs_packets.specs.PacketValues.{PacketValue}
use Rattle.etcs_packet_text.specs.Packets.{packet_line, packet_text}
use Rattle.etcs_packet_text.specs.Show.{variable_line}

-- the text, and a line for each variable after it
abbrev pub with_lines : List ℕ → Reading → List ℕ
with_lines text r = text ++ flat_map variable_line r

-- the text, and that of a packet after it
abbrev pub and_lines : Way → List ℕ → PacketValue → List ℕ
and_lines way text v = text ++ packet_text way v

-- the text, and after it the line of a packet's number and those of Q_DIR, if it is sent, and L_PACKET; packet 0 without a
-- direction has neither
abbrev pub begun_lines : Way → ℕ → Option ℕ → ℕ → List ℕ → List ℕ
begun_lines way nid None bits text = text ++ packet_line nid
begun_lines way nid (Some dir) bits text = text ++ (packet_line nid ++ flat_map variable_line (directed way dir ((L_PACKET, bits) ∷ [])))
