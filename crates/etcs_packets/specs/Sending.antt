-- The variables of a packet with its frame, in two parts: its front, and what follows (SUBSET-026, 7.4).
use Rattle.std.specs.Prelude.{ℕ, Bool, List, [], ◌∷◌, Option, Some, None}
use Rattle.etcs_vars.specs.declared.var.Var.TheVariants.{NID_PACKET, L_PACKET, OTHER_DATA}
use Rattle.etcs_vars.specs.Reading.{Reading}
use Rattle.etcs_vars.specs.Reading as sent
use Rattle.etcs_tables.specs.declared.row.Way.{Way}
use Rattle.etcs_tables.specs.Frames.{directed}
use Rattle.etcs_packets.specs.PacketValues.{PacketValue, nid_of, dir_of, kept_of, variables_of, bits_to}

-- Q_DIR to the train alone, and L_PACKET, if the packet has a direction
abbrev pub directed_by : Way → Option ℕ → ℕ → Reading
directed_by way None bits = []
directed_by way (Some dir) bits = directed way dir ((L_PACKET, bits) ∷ [])

-- a packet's frame one way, or the number alone of packet 0 without a frame
abbrev pub front_to : Way → PacketValue → Reading
front_to way v = (NID_PACKET, nid_of v) ∷ directed_by way (dir_of v) (bits_to way v)

-- kept bits as OTHER_DATA bit by bit, if there are some, else these variables
abbrev pub rest_by : Option (List Bool) → Reading → Reading
rest_by None r = r
rest_by (Some b) r = sent.kept OTHER_DATA b

-- what follows a packet's front: its variables, or its kept bits as OTHER_DATA bit by bit
abbrev pub rest_after : PacketValue → Reading
rest_after v = rest_by (kept_of v) (variables_of v)
