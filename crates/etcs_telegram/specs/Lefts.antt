-- What is left of a telegram, what comes next of it, and what its variables so far are (SUBSET-026, chapters 7 and 8).
use Rattle.std.specs.Prelude.{◌≡◌, ℕ, ◌+◌, ◌-◌, ◌≤◌, Bool, true, false, not, List, [], ◌++◌, ◌==◌, length, drop, Option, Some, None, ◌&&◌, nat_lt, if◌then◌else◌, All, IsTrue}
use Rattle.etcs_vars.specs.declared.var.Var.{Var}
use Rattle.etcs_vars.specs.declared.var.Var.TheVariants.{FILL, PAD}
use Rattle.etcs_vars.specs.Reading.{Reading, Then, spelled}
use Rattle.etcs_vars.specs.Walking.{Residual}
use Rattle.etcs_reader.specs.Fields.{ReadsFields, first_of}
use Rattle.etcs_reader.specs.Rests.{LeapsBy}
use Rattle.etcs_sequence.specs.AtOnce.{Holds}
use Rattle.etcs_packets.specs.PacketValues.{PacketValue, IsPacket}
use Rattle.etcs_sequence.specs.ChainLaws.{Chain}
use Rattle.etcs_sequence.specs.declared.state.PacketsState.{PacketsState}
use Rattle.etcs_sequence.specs.Lefts.{next_of, left_of, ahead, is_closed, is_telegram, may_grow, HoldsAt}
use Rattle.etcs_telegram.specs.declared.size.Size.{Size}
use Rattle.etcs_telegram.specs.declared.phase.Phase.{Phase}
use Rattle.etcs_telegram.specs.declared.phase.Phase.TheVariants.{Header, Packets, Fill, Pad, Whole}
use Rattle.etcs_telegram.specs.Telegrams.{pad_bits, closed_reading}
use Rattle.etcs_tables.specs.Headers.{header_row}
use Rattle.etcs_sequence.specs.Labels.{labelled}
use Rattle.etcs_telegram.specs.Phases.{PadLeft, FillLeft, beyond_header, after_fill}

-- FILL after packets, up to this many bits, and PAD after it
abbrev pub FillBy : Size → ℕ → Reading → Reading → Type 0
FillBy size room p r = FillLeft size (room - length (spelled p)) r

-- what is left of packets, and FILL after it, in this many bits
abbrev pub PacketsThen : Size → (Reading → Type 0) → ℕ → Reading → Type 0
PacketsThen size P room r = Chain P (FillBy size room) r

-- the same of packets of which this is left
abbrev pub PacketsAfter : Size → PacketsState → Reading → Type 0
PacketsAfter size l r = PacketsThen size (left_of l.carrier l.room l.stage) (ahead l.carrier l.room l.stage) r

-- the readings that are left if this comes next
abbrev pub left_at : Size → Phase → PacketsState → Reading → Type 0
left_at size (Header at) l r = Then (ReadsFields (drop at header_row)) (PacketsAfter size l) r
left_at size Packets l r = PacketsAfter size l r
left_at size (Fill left) l r = FillLeft size left r
left_at size (Pad left) l r = PadLeft left r
left_at size Whole l r = r ≡ []

-- the variable that comes next
abbrev pub next_at : Phase → PacketsState → Option Var
next_at (Header at) l = first_of (drop at header_row)
next_at Packets l = next_of l.stage
next_at (Fill left) l = Some FILL
next_at (Pad left) l = Some PAD
next_at Whole l = None

-- packets of a telegram of which more come, or packet 255
abbrev pub is_open : PacketsState → Bool
is_open l = is_telegram l.carrier && not (is_closed l.stage)

-- what comes next agrees with how many of the header's numbers are there and with what is left of packets
abbrev pub stands_at : Phase → ℕ → PacketsState → Bool
stands_at (Header at) n l = nat_lt at 10 && ((n == at) && is_open l)
stands_at Packets n l = (n == 10) && is_open l
stands_at (Fill left) n l = nat_lt 0 left && is_closed l.stage
stands_at (Pad left) n l = nat_lt 0 left
stands_at Whole n l = true

-- memory may be asked for
abbrev pub may_ask : Phase → PacketsState → Bool
may_ask (Header at) l = false
may_ask Packets l = may_grow l.stage
may_ask (Fill left) l = true
may_ask (Pad left) l = false
may_ask Whole l = false

-- what comes after a variable of the packets
abbrev pub after_packets : Size → PacketsState → Phase
after_packets size l = if is_closed l.stage then after_fill size l.room 0 else Packets

-- ---- What is kept of it.

-- FILL's bits that are left have room after those that are held
abbrev pub FillFits : Phase → Holds → Type 0
FillFits (Header at) holds = Unit {0}
FillFits Packets holds = Unit {0}
FillFits (Fill left) holds = (vs : List PacketValue) × (k : List Bool) × holds vs [] k × (length k + left ≤ 8191)
FillFits (Pad left) holds = Unit {0}
FillFits Whole holds = Unit {0}

-- q are ten numbers of the header, whole packets with packet 255, the bits of FILL that such a room takes but for
-- these that are left, and this many of PAD
pub record Filled (header : List ℕ) (holds : Holds) (room left zeros : ℕ) (q : Reading) : Type 0 where
  pub ten : length header ≡ 10
  pub packets : List PacketValue
  pub fill : List Bool
  pub held : holds packets [] fill
  pub carried : All IsPacket packets
  pub room_is : length fill + left ≡ room
  pub reading_is : q ≡ labelled header_row header ++ beyond_header (closed_reading packets) fill zeros

-- q are the variables so far, and what is held is of them
abbrev pub HoldsBy : Size → Phase → List ℕ → PacketsState → Holds → Reading → Type 0
HoldsBy size (Header at) header l holds q = (q ≡ labelled header_row header) × HoldsAt l.carrier l.stage holds []
HoldsBy size Packets header l holds q = (h : Reading) × (q ≡ labelled header_row header ++ h) × HoldsAt l.carrier l.stage holds h
HoldsBy size (Fill left) header l holds q = Filled header holds l.room left 0 q
HoldsBy size (Pad left) header l holds q = (zeros : ℕ) × (zeros + left ≡ pad_bits size) × Filled header holds l.room 0 zeros q
HoldsBy size Whole header l holds q = Filled header holds l.room 0 (pad_bits size) q

-- ---- A telegram of which some was read.

-- its size, what comes next, the header's numbers so far, what is left of packets, and the store of packets
pub record TelegramState (S : Type 0) : Type 0 where
  pub size : Size
  pub phase : Phase
  pub header : List ℕ
  pub left : PacketsState
  pub store : S
  pub stands : IsTrue (stands_at phase (length header) left)

-- the readings that are left of it
abbrev pub Left : {S : Type 0} → TelegramState S → Reading → Type 0
Left s = left_at s.size s.phase s.left

-- its variable that comes next
abbrev pub next_var : {S : Type 0} → TelegramState S → Option Var
next_var s = next_at s.phase s.left

-- its next variable may ask for memory
abbrev pub MayAsk : {S : Type 0} → TelegramState S → Type 0
MayAsk s = IsTrue (may_ask s.phase s.left)

-- q are its variables so far, and what is held is of them
abbrev pub HoldsIn : {S : Type 0} → (S → Holds) → TelegramState S → Reading → Type 0
HoldsIn holds s q = HoldsBy s.size s.phase s.header s.left (holds s.store) q

-- the variables p lead from the first to the second: what is left, and what is held
pub record Follows {S : Type 0} (holds : S → Holds) (s : TelegramState S) (p : Reading) (t : TelegramState S) : Type 0 where
  pub same : t.size ≡ s.size
  pub residual : Residual (Left s) p (Left t)
  pub held : (q : Reading) → HoldsIn holds s q → HoldsIn holds t (q ++ p)

-- the same by n bits of xs from at on, after which something is left
abbrev pub Leaps : {S : Type 0} → (S → Holds) → TelegramState S → TelegramState S → List Bool → ℕ → ℕ → Type 0
Leaps holds s t xs at n = LeapsBy (Left t) (λ p. Follows holds s p t) xs at n
