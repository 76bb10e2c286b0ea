-- What is put as bits of the JSON with which a text begins.
use Rattle.std.specs.Prelude.{◌≡◌, ℕ, ◌+◌, ◌*◌, ◌%◌, ◌^◌, ◌<◌, ◌≤◌, Bool, false, List, [], ◌∷◌, ◌++◌, length, All, None, Some}
use Rattle.serde_json.specs.Data.{Data}
use Rattle.serde_json.specs.Written.{compact_text}
use Rattle.etcs_vars.specs.declared.var.Var.TheVariants.{NID_MESSAGE, L_MESSAGE, OTHER_DATA, PADDING}
use Rattle.etcs_vars.specs.Reading.{Reading, kept, spelled}
use Rattle.etcs_tables.specs.declared.row.Way.{Way}
use Rattle.etcs_tables.specs.Headers.{head_row}
use Rattle.etcs_tables.specs.Layouts.{Layout, Reads}
use Rattle.etcs_tables.specs.Rows.{message_row_to}
use Rattle.etcs_reader.specs.Fields.{ReadsFields}
use Rattle.etcs_packets.specs.PacketReadings.{readings_to}
use Rattle.etcs_messages.specs.Messages.{MessageValue, MessageReads, kept_message, typed_message}
use Rattle.etcs_text.specs.declared.entry.Kind.{Kind}
use Rattle.etcs_text.specs.Entries.{EntryValue, EntryReads}
use Rattle.etcs_text.specs.Trees.{json_tree, message_tree}
use Rattle.etcs_json_trees.specs.Loose.{HasRoom, IsLoosePacket}
use Rattle.etcs_json.specs.TreeReading.{IsMessageTree}

-- the text begins with this front, and n bytes are after it
abbrev pub LeavesAfter : List ℕ → List ℕ → ℕ → Type 0
LeavesAfter text front n = (rest : List ℕ) × (length rest ≡ n) × (text ≡ front ++ rest)

-- the text begins with the JSON of an item of the kind, n bytes are after it, and b are the item's bits
abbrev pub PutsItem : Kind → List ℕ → List Bool → ℕ → Type 0
PutsItem kind text b n = (e : EntryValue) × (r : Reading) × EntryReads kind e r × LeavesAfter text (compact_text (json_tree e)) n × (b ≡ spelled r)

-- these variables after NID_MESSAGE and L_MESSAGE are all of the message, if with those they are whole bytes, and not too
-- many
abbrev pub Completes : Way → ℕ → MessageValue → Reading → Type 0
Completes way nid m r = (len : ℕ) → 18 + length (spelled r) ≡ 8 * len → len < 2 ^ 10 → MessageReads way m ((NID_MESSAGE, nid) ∷ (L_MESSAGE, len) ∷ r)

-- the text begins with the JSON of a message of this way and number, n bytes are after it, and new are the bits old and
-- then those of the message after L_MESSAGE
abbrev pub PutsMessage : Way → ℕ → List ℕ → List Bool → List Bool → ℕ → Type 0
PutsMessage way nid text old new n = (m : MessageValue) × (r : Reading) × Completes way nid m r × LeavesAfter text (compact_text (message_tree way m)) n × (new ≡ old ++ spelled r)

-- the bits are as many as those of a message: whole bytes, and not too many
abbrev pub IsWhole : List Bool → Type 0
IsWhole b = (length b % 8 ≡ 0) × (length b ≤ 8184)

-- ---- What is put of a message's tree.

-- a message's number
abbrev pub nid_of : MessageValue → ℕ
nid_of (typed_message nid head body vs padding) = nid
nid_of (kept_message nid b) = nid

-- what a message has after L_MESSAGE
abbrev pub rest_of : Way → MessageValue → Reading
rest_of way (typed_message nid head body vs padding) = head ++ body ++ readings_to way vs ++ kept PADDING padding
rest_of way (kept_message nid b) = kept OTHER_DATA b

-- m is a message of the way but for its length, where a packet that is kept as bits may have one of the seven numbers
abbrev pub HasParts : Way → MessageValue → Type 0
HasParts way (typed_message nid head body vs padding) = (row : Layout) × (message_row_to way nid ≡ Some row) × Reads row [] body × ReadsFields (head_row way) head × All (IsLoosePacket way false) vs × (length padding ≤ 7)
HasParts way (kept_message nid b) = (message_row_to way nid ≡ None) × (nid < 2 ^ 8)

-- m is such a message, and it has room after the bits b
abbrev pub HasPlace : Way → MessageValue → List Bool → Type 0
HasPlace way m b = HasParts way m × HasRoom b (rest_of way m)

-- d is the tree of such a message of this number, and new are the bits old and then those of it after L_MESSAGE
abbrev pub PutsRest : Way → Data → ℕ → List Bool → List Bool → Type 0
PutsRest way d nid old new = (m : MessageValue) × HasParts way m × (nid_of m ≡ nid) × IsMessageTree way m d × (new ≡ old ++ spelled (rest_of way m))
