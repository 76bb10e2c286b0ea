-- What a reader of telegrams stands for, computed from what it keeps, and what it holds between two pieces (SUBSET-026,
-- chapters 7 and 8).
use Rattle.std.specs.Prelude.{◌≡◌, ℕ, ◌+◌, ◌-◌, ◌<◌, Bool, false, List, [], ◌++◌, length, map, replicate, All, ◌⊎◌}
use Rattle.etcs_vars.specs.declared.var.Var.TheVariants.{FILL, PAD}
use Rattle.etcs_vars.specs.Reading.{Reading, kept}
use Rattle.etcs_packets.specs.declared.packet.Packet.{Packet}
use Rattle.etcs_packets.specs.PacketValues.{form, packet_value, IsPacket, IsMade}
use Rattle.etcs_packets.specs.PacketReadings.{packets_reading}
use Rattle.etcs_tables.specs.declared.row.Way.TheVariants.{ToTrain}
use Rattle.etcs_sequence.specs.Runs.{Begun}
use Rattle.etcs_sequence.specs.AtOnce.{Holds}
use Rattle.etcs_sequence.specs.Labels.{labelled}
use Rattle.etcs_sequence.specs.Held.{list_holds, packets_so_far}
use Rattle.etcs_sequence.specs.Readables.{ItemValue, IsPart}
use Rattle.etcs_sequence.specs.Holdings.{HeldIn}
use Rattle.etcs_telegram.specs.declared.size.Size.{Size}
use Rattle.etcs_telegram.specs.declared.phase.Phase.{Phase}
use Rattle.etcs_telegram.specs.declared.phase.Phase.TheVariants.{Header, Packets, Fill, Pad, Whole}
use Rattle.etcs_telegram.specs.Telegrams.{user_bits, pad_bits, container_bytes, closed_reading, header_of, ReadsAs, TelegramContent, TelegramLanguage}
use Rattle.etcs_tables.specs.Headers.{header_row}
use Rattle.etcs_telegram.specs.Phases.{beyond_header}
use Rattle.etcs_telegram.specs.declared.store.TelegramStore.{TelegramStore}
use Rattle.etcs_telegram.specs.Lefts.{TelegramState, Left, HoldsIn, Follows}

-- what a reader stands for: its size and its progress
abbrev pub ReaderValue : Type 0
ReaderValue = ItemValue Size TelegramContent

-- how many bits a telegram has: user bits and PAD
abbrev pub telegram_bits : TelegramContent → ℕ
telegram_bits t = user_bits t.size + pad_bits t.size

-- what a store holds: whole packets, the numbers of the packet that is being read, and bits
abbrev pub store_holds : TelegramStore → Holds
store_holds store = list_holds form store.list.packets.items store.list.numbers.items store.list.bits

-- the variables so far if this comes next: some of the header's; the header, packets and what is there of the next one;
-- or header, all packets with 255, FILL so far and some of PAD
abbrev pub far_at : Phase → TelegramState TelegramStore → Reading
far_at (Header at) s = labelled header_row s.header
far_at Packets s = labelled header_row s.header ++ packets_so_far form s.left.carrier s.left.stage s.store.list.packets.items s.store.list.numbers.items s.store.list.bits
far_at (Fill n) s = labelled header_row s.header ++ beyond_header (closed_reading (map packet_value s.store.list.packets.items)) s.store.list.bits 0
far_at (Pad n) s = labelled header_row s.header ++ beyond_header (closed_reading (map packet_value s.store.list.packets.items)) s.store.list.bits (pad_bits s.size - n)
far_at Whole s = labelled header_row s.header ++ beyond_header (closed_reading (map packet_value s.store.list.packets.items)) s.store.list.bits (pad_bits s.size)

-- the variables so far, computed from what the reader keeps
abbrev pub so_far : TelegramState TelegramStore → Reading
so_far s = far_at s.phase s

-- the telegram of what was kept, once nothing is left
abbrev pub telegram_by : TelegramState TelegramStore → TelegramContent
telegram_by s = record { size = s.size; header = header_of s.header; packets = s.store.list.packets.items; fill = s.store.list.bits }

-- q are the variables so far of a telegram of the reader's own size, and what is held is of them
abbrev pub OwnHeld : Size → TelegramState TelegramStore → Reading → Type 0
OwnHeld own s q = (s.size ≡ own) × HoldsIn store_holds s q

-- ---- What one pass leaves.

-- the first n bits of a piece spell whole variables of a telegram of this size that lead to what is left in rest
abbrev pub IsTelegramPart : Size → List Bool → TelegramState TelegramStore → ℕ → Type 0
IsTelegramPart size xs rest n = IsPart Left (Follows store_holds) (OwnHeld size) (ReadsAs size) (container_bytes size) xs rest n

-- ---- What it holds between two pieces.

-- the whole variables are some of the header's; the header, the packets and what is there of the next one; or the
-- header, all packets with 255, and bits of FILL and PAD
abbrev pub Standing : List Packet → List ℕ → List Bool → Reading → Type 0
Standing ps f k far =
    ((header : List ℕ) × (far ≡ labelled header_row header) × (length header < 10) × (ps ≡ []) × (f ≡ []) × (k ≡ []))
    ⊎ (((header : List ℕ) × (front : Reading) × (length header ≡ 10) × (far ≡ labelled header_row header ++ (packets_reading (map packet_value ps) ++ front)) × Begun ToTrain front f k)
    ⊎ ((header : List ℕ) × (zeros : ℕ) × (length header ≡ 10) × (far ≡ labelled header_row header ++ (closed_reading (map packet_value ps) ++ (kept FILL k ++ kept PAD (replicate zeros false)))) × (f ≡ [])))

-- packets, numbers and kept bits are all that is held of the whole variables far, and each packet is as its type admits
-- it
abbrev pub Members : List Packet → List ℕ → List Bool → Reading → Type 0
Members ps f k far = Standing ps f k far × All IsMade ps × All IsPacket (map packet_value ps)

-- of one size and the same bits, any two packets, numbers, kept bits, part and taken with HeldIn are equal, all five
abbrev pub OneHolding : Type 0
OneHolding =
    (size : Size) (b : List Bool) (ps qs : List Packet) (f g : List ℕ) (k l : List Bool) (part part' taken taken' : ℕ)
    → HeldIn (TelegramLanguage size) (Members ps f k) b part taken → HeldIn (TelegramLanguage size) (Members qs g l) b part' taken' → (ps ≡ qs) × (f ≡ g) × (k ≡ l) × (part ≡ part') × (taken ≡ taken')
