-- Where the variables of an item are: in which packet, and in which entry of which repeated group (SUBSET-026, 7 and 8).
use Rattle.std.specs.Prelude.{◌≡◌, ℕ, ◌+◌, false, List, [], ◌∷◌, ◌++◌, length, take, replicate, Some}
use Rattle.etcs_vars.specs.declared.var.Var.TheVariants.{FILL, PAD, PADDING, OTHER_DATA}
use Rattle.etcs_vars.specs.Reading.{Reading}
use Rattle.etcs_vars.specs.Reading as sent
use Rattle.etcs_tables.specs.declared.row.Way.{Way}
use Rattle.etcs_tables.specs.declared.row.Way.TheVariants.{ToTrain, ToTrack}
use Rattle.etcs_tables.specs.Layouts.{Layout}
use Rattle.etcs_tables.specs.Rows.{row_to, message_row_to}
use Rattle.etcs_packets.specs.PacketValues.{PacketValue, marker, typed, kept}
use Rattle.etcs_packets.specs.PacketReadings.{reading_to, in_frame}
use Rattle.etcs_telegram.specs.Telegrams.{TelegramValue, header_reading, pad_bits}
use Rattle.etcs_messages.specs.Messages.{MessageValue, typed_message, kept_message, head_reading}
use Rattle.etcs_text.specs.declared.entry.Kind.{Kind}
use Rattle.etcs_text.specs.declared.entry.Kind.TheVariants.{Long, Short, Radio, Train}
use Rattle.etcs_text.specs.Entries.{EntryValue, of_telegram, of_message, EntryReads}
use Rattle.etcs_places.specs.declared.place.Place.{Place}
use Rattle.etcs_places.specs.Places.{outside, in_packet, all_at, RowPlaces}

-- p are the places of the variables of a packet that is at this place: all of its frame and of what is kept are there, and
-- those of its row are by the row
abbrev pub PacketPlaces : Way → Place → PacketValue → List Place → Type 0
PacketPlaces way at (marker n) p = p ≡ all_at at (reading_to way (marker n))
PacketPlaces way at (typed nid dir r) p = (row : Layout) × (q : List Place) × (row_to way nid ≡ Some row) × RowPlaces row [] at r q × (p ≡ all_at at (in_frame way nid dir 0 []) ++ q)
PacketPlaces way at (kept nid dir b) p = p ≡ all_at at (reading_to way (kept nid dir b))

-- p are the places of the variables of packets, one after another, the first of which is packet k of its item
abbrev pub PacketsPlaces : Way → ℕ → List PacketValue → List Place → Type 0
PacketsPlaces way k [] p = p ≡ []
PacketsPlaces way k (v ∷ vs) p = (p1 : List Place) × (p2 : List Place) × (p ≡ p1 ++ p2) × PacketPlaces way (in_packet k) v p1 × PacketsPlaces way (k + 1) vs p2

-- p are the places of a telegram's variables: its packets are counted from 1, packet 255 is the last of them, and all
-- else is outside
abbrev pub TelegramPlaces : TelegramValue → List Place → Type 0
TelegramPlaces t p =
    (q : List Place) × PacketsPlaces ToTrain 1 t.packets q
    × (p ≡ all_at outside (header_reading t.header) ++ (q ++ in_packet (length t.packets + 1) ∷ all_at outside (sent.kept FILL t.fill ++ sent.kept PAD (replicate (pad_bits t.size) false))))

-- p are the places of a message's variables: its packets are counted from 1, its own variables are by its row, and all else
-- is outside
abbrev pub MessagePlaces : Way → MessageValue → List Place → Type 0
MessagePlaces way (typed_message nid head body vs padding) p =
    (row : Layout) × (own : List Place) × (q : List Place)
    × (message_row_to way nid ≡ Some row)
    × RowPlaces row [] outside body own
    × PacketsPlaces way 1 vs q
    × (p ≡ all_at outside (head_reading nid 0 head) ++ (own ++ (q ++ all_at outside (sent.kept PADDING padding))))
MessagePlaces way (kept_message nid b) p = p ≡ all_at outside (head_reading nid 0 (sent.kept OTHER_DATA b))

-- p are the places of an item's variables
abbrev pub ItemPlaces : EntryValue → List Place → Type 0
ItemPlaces (of_telegram t) p = TelegramPlaces t p
ItemPlaces (of_message way m) p = MessagePlaces way m p

-- the pairs r are the reading of an item of the kind, and p are the places of its variables
abbrev pub PairsPlaces : Kind → Reading → List Place → Type 0
PairsPlaces kind r p = (e : EntryValue) × EntryReads kind e r × ItemPlaces e p

-- the pairs r are the front of the reading of an item of the kind, and p are the places of its variables
abbrev pub FrontPlaces : Kind → Reading → List Place → Type 0
FrontPlaces kind r p = (rest : Reading) × (all : List Place) × PairsPlaces kind (r ++ rest) all × (p ≡ take (length r) all)

-- which way items of a kind go
abbrev pub way_of : Kind → Way
way_of Long = ToTrain
way_of Short = ToTrain
way_of Radio = ToTrain
way_of Train = ToTrack
