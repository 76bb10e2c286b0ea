-- The text of a message of either way (SUBSET-026, chapter 8).
use Rattle.std.specs.Prelude.{ℕ, ◌+◌, ◌/◌, List, [], ◌∷◌, ◌++◌, length, flat_map, codes}
use Rattle.std.specs.Fmt.{decimal}
use Rattle.etcs_vars.specs.declared.var.Var.TheVariants.{NID_MESSAGE, L_MESSAGE}
use Rattle.etcs_vars.specs.Reading.{Reading, spelled}
use Rattle.etcs_tables.specs.declared.row.Way.{Way}
use Rattle.etcs_packets.specs.PacketReadings.{readings_to}
use Rattle.etcs_messages.specs.Messages.{MessageValue, typed_message, kept_message, front_of, head_reading}
use Rattle.etcs_packet_text.specs.Show.{variable_line, bits_line}
use Rattle.etcs_text.specs.Show.{way_word}
use Rattle.etcs_packet_text.specs.Packets.{packets_text}

-- how many bits a message has
abbrev pub message_bits : Way → MessageValue → ℕ
message_bits way (typed_message nid head body vs padding) = front_of way body + length (spelled (readings_to way vs)) + length padding
message_bits way (kept_message nid b) = 18 + length b

-- L_MESSAGE: these bits in whole bytes
abbrev pub message_bytes : Way → MessageValue → ℕ
message_bytes way m = (message_bits way m + 7) / 8

-- the line of the item with its number, its kind and its count of bits
abbrev pub message_line : Way → ℕ → ℕ → List ℕ
message_line way bits item = codes "item " ++ decimal item ++ codes " " ++ way_word way ++ codes " " ++ decimal bits ++ codes " bits\n"

-- the variables of the header and of the message's own; of a message that is kept NID_MESSAGE and L_MESSAGE
abbrev pub front_variables : Way → MessageValue → Reading
front_variables way (typed_message nid head body vs padding) = head_reading nid (message_bytes way (typed_message nid head body vs padding)) head ++ body
front_variables way (kept_message nid b) = (NID_MESSAGE, nid) ∷ (L_MESSAGE, message_bytes way (kept_message nid b)) ∷ []

-- what follows them: packets, `end` and the line of PADDING, or the line of the bits that are kept
abbrev pub after_lines : Way → MessageValue → List ℕ
after_lines way (typed_message nid head body vs padding) = packets_text way vs ++ codes "end\n" ++ bits_line (codes "PADDING") padding
after_lines way (kept_message nid b) = bits_line (codes "OTHER_DATA") b

-- the text of the message of this number: the line of the item with its kind and its bits, a line for each variable of
-- the header and of its own, its packets, `end` and the line of PADDING; of one that is kept the lines of NID_MESSAGE,
-- L_MESSAGE and OTHER_DATA after the first
unfoldable pub message_text : Way → MessageValue → ℕ → List ℕ
message_text way m item = message_line way (message_bits way m) item ++ flat_map variable_line (front_variables way m) ++ after_lines way m
