-- Parts of the text of packets, each with what is after it, and packets that are put as bits.
use Rattle.std.specs.Prelude.{◌≡◌, ℕ, ◌≤◌, Bool, false, List, [], ◌∷◌, ◌++◌, length, IsTrue, codes, decimal}
use Rattle.serde_json.specs.Written.{compact_text}
use Rattle.etcs_vars.specs.declared.var.Var.TheVariants.{L_PACKET, NID_PACKET}
use Rattle.etcs_vars.specs.Reading.{Reading, spelled}
use Rattle.etcs_tables.specs.declared.row.Way.{Way}
use Rattle.etcs_tables.specs.declared.row.Way.TheVariants.{ToTrain, ToTrack}
use Rattle.etcs_tables.specs.Frames.{directed, is_direction, is_marker}
use Rattle.etcs_tables.specs.Layouts.{ROW_LIMIT}
use Rattle.etcs_tables.specs.Typed.{IsFramed}
use Rattle.etcs_packets.specs.PacketValues.{PacketValue, marker, typed, nid_of, variables_of, IsPacketTo}
use Rattle.etcs_packets.specs.PacketReadings.{reading_to}
use Rattle.etcs_packet_text.specs.Trees.{packet_tree, pairs_tree}

-- the text of a packet from the list of its variables on, and s after it
abbrev pub fields_then : PacketValue → List ℕ → List ℕ
fields_then v s = compact_text (pairs_tree (variables_of v)) ++ (codes ",\"nid\":" ++ (decimal (nid_of v) ++ (codes "}" ++ s)))

-- the text of the member of a direction, and s after it: to the track there is no such member
abbrev pub dir_then : Way → ℕ → List ℕ → List ℕ
dir_then ToTrain dir s = codes "\"dir\":" ++ (decimal dir ++ (codes "," ++ s))
dir_then ToTrack dir s = s

-- ---- What is put of a text.

-- n bytes are left of a text, and this is said of them
abbrev pub Leaves : ℕ → (List ℕ → Type 0) → Type 0
Leaves n says = (rest : List ℕ) × (length rest ≡ n) × says rest

-- r is a reading of the row of this number: with any direction and few enough bits it is that of a packet
abbrev pub IsRowOf : Way → ℕ → Reading → Type 0
IsRowOf way nid r = (dir : ℕ) → IsTrue (is_direction way dir) → length (spelled r) ≤ ROW_LIMIT → IsFramed way nid dir r

-- a packet isn't packet 0 without a frame
abbrev pub IsUnmarked : PacketValue → Type 0
IsUnmarked v = (n : ℕ) → v ≡ marker n → ⊥

-- a typed packet of these variables is put after these bits, with zeros as L_PACKET
abbrev pub IsUnmeasured : Way → ℕ → ℕ → Reading → List Bool → List Bool → Type 0
IsUnmeasured way nid dir r old new = new ≡ (old ++ spelled ((NID_PACKET, nid) ∷ directed way dir ((L_PACKET, 0) ∷ []))) ++ spelled r

-- a text is that of a typed packet of this direction, from the list of its variables on, and n bytes more, and its bits
-- are put after those before
abbrev pub PutsTyped : Way → ℕ → List ℕ → ℕ → List Bool → List Bool → Type 0
PutsTyped way dir text n old new = (nid : ℕ) × (r : Reading) × IsFramed way nid dir r × Leaves n (λ s. text ≡ fields_then (typed nid dir r) s) × (new ≡ old ++ spelled (reading_to way (typed nid dir r)))

-- the same of packet 0 to the train
abbrev pub PutsMarker : List ℕ → ℕ → List Bool → List Bool → Type 0
PutsMarker text n old new = (number : ℕ) × IsTrue (is_marker ToTrain number) × Leaves n (λ s. text ≡ fields_then (marker number) s) × (new ≡ old ++ spelled (reading_to ToTrain (marker number)))

-- a text is that of a packet and n bytes more, and its bits are put after those before; it is packet 0 without a frame
-- only if there may be one
abbrev pub PutsPacket : Way → Bool → List ℕ → ℕ → List Bool → List Bool → Type 0
PutsPacket way has_marker text n old new = (v : PacketValue) × IsPacketTo way v × (has_marker ≡ false → IsUnmarked v) × Leaves n (λ s. text ≡ compact_text (packet_tree way v) ++ s) × (new ≡ old ++ spelled (reading_to way v))
