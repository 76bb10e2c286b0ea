-- Balise telegrams: header, packets, packet 255, FILL up to the user bits, and zeros up to a whole number of bytes
-- (SUBSET-026, chapters 7 and 8; the sizes 210 and 830: SUBSET-036).
use Rattle.std.specs.Prelude.{◌≡◌, ℕ, ◌+◌, ◌-◌, ◌≤◌, ◌↔◌, ◌==◌, Bool, false, List, [], ◌∷◌, ◌++◌, length, map, replicate, IsTrue, All, slice_index}
use Rattle.etcs_bits.specs.Bits.{bit}
use Rattle.etcs_vars.specs.declared.var.Var.TheVariants.{Q_UPDOWN, M_VERSION_HEADER, Q_MEDIA, N_PIG, N_TOTAL, M_DUP, M_MCOUNT, NID_C, NID_BG, Q_LINK, FILL, PAD}
use Rattle.etcs_vars.specs.Reading.{Reading, spelled, kept, readings_of, Viable, IsAdmitted}
use Rattle.etcs_rows.specs.declared.frames.Carrier.TheVariants as carrier
use Rattle.etcs_packets.specs.declared.packet.Packet.{Packet}
use Rattle.etcs_packets.specs.PacketValues.{PacketValue, packet_value, IsPacket, IsMade}
use Rattle.etcs_packets.specs.PacketReadings.{packets_reading}
use Rattle.etcs_sequence.specs.Contents.{closing}
use Rattle.etcs_telegram.specs.declared.size.Size.{Size}
use Rattle.etcs_telegram.specs.declared.size.Size.TheVariants.{Short, Long}

-- how many bits come before PAD: 210 or 830
abbrev pub user_bits : Size → ℕ
user_bits Short = 210
user_bits Long = 830

-- how many zeros follow the user bits, up to a whole number of bytes: 6 or 2
abbrev pub pad_bits : Size → ℕ
pad_bits Short = 6
pad_bits Long = 2

-- how many bytes a telegram takes: 27 or 104
abbrev pub container_bytes : Size → ℕ
container_bytes Short = 27
container_bytes Long = 104

-- how many user bits the 50 of the header leave to packets, packet 255 and FILL: 160 or 780
abbrev pub packet_room : Size → ℕ
packet_room size = user_bits size - 50

-- the header's numbers that aren't fixed
pub record HeaderValue : Type 0 where
  pub m_version : ℕ
  pub n_pig : ℕ
  pub n_total : ℕ
  pub m_dup : ℕ
  pub m_mcount : ℕ
  pub nid_c : ℕ
  pub nid_bg : ℕ
  pub q_link : Bool

-- the header as it is sent: Q_UPDOWN 1, M_VERSION, Q_MEDIA 0, N_PIG, N_TOTAL, M_DUP, M_MCOUNT, NID_C, NID_BG, Q_LINK
abbrev pub header_reading : HeaderValue → Reading
header_reading h =
    (Q_UPDOWN, 1) ∷ (M_VERSION_HEADER, h.m_version) ∷ (Q_MEDIA, 0) ∷ (N_PIG, h.n_pig) ∷ (N_TOTAL, h.n_total) ∷ (M_DUP, h.m_dup) ∷ (M_MCOUNT, h.m_mcount) ∷ (NID_C, h.nid_c) ∷ (NID_BG, h.nid_bg) ∷ (Q_LINK, bit h.q_link) ∷ []

-- what a telegram holds: size, header, packets and the bits of FILL
pub record TelegramContent : Type 0 where
  pub size : Size
  pub header : HeaderValue
  pub packets : List Packet
  pub fill : List Bool

-- what a telegram stands for: the same, each packet as its number, direction and variables or kept bits
pub record TelegramValue : Type 0 where
  pub size : Size
  pub header : HeaderValue
  pub packets : List PacketValue
  pub fill : List Bool

-- what a telegram of this content stands for
abbrev pub telegram_value : TelegramContent → TelegramValue
telegram_value t = record { size = t.size; header = t.header; packets = map packet_value t.packets; fill = t.fill }

-- packets one after another, and packet 255
abbrev pub closed_reading : List PacketValue → Reading
closed_reading vs = packets_reading vs ++ closing carrier.Telegram

-- how many bits these packets take with packet 255
abbrev pub closed_bits : List Packet → ℕ
closed_bits ps = length (spelled (closed_reading (map packet_value ps)))

-- the header's numbers and the packets are admitted; r is the header, the packets, packet 255, FILL and PAD's zeros;
-- all but these zeros are exactly the user bits
pub record TelegramReads (t : TelegramValue) (r : Reading) : Type 0 where
  pub header_admitted : IsAdmitted (header_reading t.header)
  pub packets_hold : All IsPacket t.packets
  pub reading_is : r ≡ header_reading t.header ++ closed_reading t.packets ++ kept FILL t.fill ++ kept PAD (replicate (pad_bits t.size) false)
  pub user_bits_is : length (spelled (header_reading t.header)) + length (spelled (closed_reading t.packets)) + length t.fill ≡ user_bits t.size

-- the telegram t has this size, and r is its reading
abbrev pub ReadsAs : Size → TelegramValue → Reading → Type 0
ReadsAs size t r = (t.size ≡ size) × TelegramReads t r

-- the readings of all telegrams of the size
abbrev pub TelegramLanguage : Size → Reading → Type 0
TelegramLanguage size = readings_of (ReadsAs size)

-- the header of these ten numbers
abbrev pub header_of : List ℕ → HeaderValue
header_of ns = record {
  m_version = slice_index ns 1;
  n_pig = slice_index ns 3;
  n_total = slice_index ns 4;
  m_dup = slice_index ns 5;
  m_mcount = slice_index ns 6;
  nid_c = slice_index ns 7;
  nid_bg = slice_index ns 8;
  q_link = slice_index ns 9 == 1;
}

-- what each telegram keeps: its header's numbers and its packets are admitted, and FILL is the rest of the user bits
pub record IsTelegram (t : TelegramContent) : Type 0 where
  pub header : IsAdmitted (header_reading t.header)
  pub made : All IsMade t.packets
  pub packets : All IsPacket (map packet_value t.packets)
  pub fill : 50 + length (spelled (closed_reading (map packet_value t.packets))) + length t.fill ≡ user_bits t.size

-- two telegrams of one size of which one's spelling begins the other's are the same telegram, and nothing follows
abbrev pub OneSpelling : Type 0
OneSpelling = (size : Size) (t u : TelegramContent) (a b : Reading) (beyond : List Bool) → IsTelegram t → IsTelegram u → ReadsAs size (telegram_value t) a → ReadsAs size (telegram_value u) b → spelled b ≡ spelled a ++ beyond → (t ≡ u) × (beyond ≡ [])

-- an admitted header and packets begin a telegram of a size exactly if at least 8 of the user bits are left
abbrev pub RoomRule : Type 0
RoomRule = (size : Size) (h : HeaderValue) (vs : List PacketValue) → IsAdmitted (header_reading h) → All IsPacket vs → (Viable (TelegramLanguage size) (spelled (header_reading h ++ packets_reading vs)) ↔ (length (spelled (header_reading h ++ packets_reading vs)) + 8 ≤ user_bits size))
