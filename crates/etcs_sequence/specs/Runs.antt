-- What was read of a packet, whole or not (SUBSET-026, 7.4).
use Rattle.std.specs.Prelude.{◌≡◌, ℕ, ◌+◌, ◌<◌, Bool, List, [], ◌∷◌, length, ◌⊎◌, IsTrue, Option, Some, None}
use Rattle.std.specs.Option.{is_some}
use Rattle.etcs_vars.specs.declared.var.Var.TheVariants.{NID_PACKET, OTHER_DATA}
use Rattle.etcs_vars.specs.Reading.{Reading, spelled, numbers, kept}
use Rattle.etcs_tables.specs.declared.row.Way.{Way}
use Rattle.etcs_tables.specs.Layouts.{Layout}
use Rattle.etcs_tables.specs.Rows.{row_to}
use Rattle.etcs_tables.specs.Frames.{is_kept, directed}
use Rattle.etcs_rows.specs.Places.{read_of}
use Rattle.etcs_packets.specs.declared.packet.Packet.{Packet}
use Rattle.etcs_packets.specs.PacketValues.{packet_value, IsPacket, IsMade}
use Rattle.etcs_packets.specs.PacketReadings.{in_frame}

-- the variables so far of a typed packet with the numbers f, of whose row this many bits are left
abbrev pub row_so_far : Way → Option Layout → ℕ → ℕ → List ℕ → ℕ → Reading
row_so_far way None nid dir f bits = []
row_so_far way (Some row) nid dir f bits = in_frame way nid dir (length (spelled (read_of row f)) + bits) (read_of row f)

-- ---- What is held of the packet that is being read.

-- r are the whole variables of a packet of which nothing is whole but NID_PACKET and, to the train, Q_DIR
abbrev pub BegunFrame : Way → Reading → Type 0
BegunFrame way r = (r ≡ []) ⊎ (((nid : ℕ) × (r ≡ (NID_PACKET, nid) ∷ [])) ⊎ ((nid : ℕ) × (dir : ℕ) × (r ≡ (NID_PACKET, nid) ∷ directed way dir [])))

-- r are a typed packet's frame and fewer bits of its row than L_PACKET counts, with the numbers f
abbrev pub BegunRow : Way → Reading → List ℕ → Type 0
BegunRow way r f = (nid : ℕ) × (dir : ℕ) × (n : ℕ) × (q : Reading) × (r ≡ in_frame way nid dir n q) × (numbers q ≡ f) × (length (spelled q) < n) × IsTrue (is_some (row_to way nid))

-- r are the frame of a packet that is kept and fewer bits than L_PACKET counts, k
abbrev pub BegunKept : Way → Reading → List Bool → Type 0
BegunKept way r k = (nid : ℕ) × (dir : ℕ) × (n : ℕ) × (r ≡ in_frame way nid dir n (kept OTHER_DATA k)) × (length k < n) × IsTrue (is_kept way nid)

-- r is what is there of a packet that isn't whole: nothing or some of its frame; or the frame and fewer bits of its row
-- than L_PACKET counts, with the numbers f; or the frame and fewer bits than it counts of a packet that is kept, k
abbrev pub Begun : Way → Reading → List ℕ → List Bool → Type 0
Begun way r f k = (BegunFrame way r × (f ≡ []) × (k ≡ [])) ⊎ ((BegunRow way r f × (k ≡ [])) ⊎ (BegunKept way r k × (f ≡ [])))

-- ---- A whole packet.

-- the packet is one that its own type admits, and stands for a packet
abbrev pub IsWhole : Packet → Type 0
IsWhole p = IsMade p × IsPacket (packet_value p)
