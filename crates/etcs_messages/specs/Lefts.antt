-- What is left of a message, what comes next of it, and what its variables so far are (SUBSET-026, 8).
use Rattle.std.specs.Prelude.{◌≡◌, ℕ, ◌+◌, ◌-◌, ◌*◌, ◌^◌, ◌<◌, ◌≤◌, Bool, true, false, not, List, [], ◌∷◌, ◌++◌, ◌==◌, ◌||◌, ◌&&◌, length, drop, Option, Some, None, option_map, nat_lt, if◌then◌else◌, All, IsTrue, ◌⊎◌}
use Rattle.std.specs.Option.{option_and_then}
use Rattle.etcs_bits.specs.Bits.{num}
use Rattle.etcs_vars.specs.declared.var.Var.{Var}
use Rattle.etcs_vars.specs.declared.var.Var.TheVariants.{NID_MESSAGE, L_MESSAGE, PADDING, OTHER_DATA}
use Rattle.etcs_vars.specs.Reading.{Reading, Then, spelled, kept}
use Rattle.etcs_vars.specs.Walking.{Residual}
use Rattle.etcs_tables.specs.declared.row.Way.{Way}
use Rattle.etcs_tables.specs.declared.item.RowItem.{RowItem}
use Rattle.etcs_tables.specs.declared.item.RowItem.TheVariants.{One, When, Many}
use Rattle.etcs_rows.specs.declared.frames.Carrier.TheVariants.{Message}
use Rattle.etcs_tables.specs.Rows.{message_row_to}
use Rattle.etcs_flat.specs.Flats.{variables}
use Rattle.etcs_packets.specs.PacketValues.{PacketValue}
use Rattle.etcs_packets.specs.PacketReadings.{readings_to}
use Rattle.etcs_sequence.specs.Contents.{Carries, PacketsIn, KeptIn}
use Rattle.etcs_reader.specs.Fields.{ReadsFields, first_of}
use Rattle.etcs_reader.specs.Rests.{LeapsBy}
use Rattle.etcs_sequence.specs.AtOnce.{Holds}
use Rattle.etcs_sequence.specs.declared.state.PacketsState.{PacketsState}
use Rattle.etcs_sequence.specs.Lefts.{next_of, left_of, ahead, is_closed, may_grow, HoldsAt}
use Rattle.etcs_sequence.specs.ChainLaws.{Chain}
use Rattle.etcs_sequence.specs.Labels.{labelled, widths}
use Rattle.etcs_messages.specs.Kinds.{is_carrier}
use Rattle.etcs_tables.specs.Headers.{head_row}
use Rattle.etcs_messages.specs.declared.phase.Phase.{Phase}
use Rattle.etcs_messages.specs.declared.phase.Phase.TheVariants as phase

-- ---- The front: what is between L_MESSAGE and the packets of a typed message.

-- the variables of the message's own
abbrev pub own_row : (way : Way) → ℕ → Option (List Var)
own_row way n = option_and_then variables (message_row_to way n)

-- the rest of the header, and these variables of the message's own
abbrev pub front_after : (way : Way) → List Var → List Var
front_after way own = head_row way ++ own

-- the variables of the front of a message of this number; none if the number isn't typed
abbrev pub front_row : (way : Way) → ℕ → Option (List Var)
front_row way n = option_map (front_after way) (own_row way n)

-- the variable of an item
abbrev pub var_of : Option RowItem → Option Var
var_of None = None
var_of (Some (One v)) = Some v
var_of (Some (When g k)) = None
var_of (Some (Many k)) = None

-- the variables of a row, if there is one
abbrev pub some_row : Option (List Var) → List Var
some_row None = []
some_row (Some vs) = vs

-- the variables of the front, empty if the number isn't typed
abbrev pub front_vars : (way : Way) → ℕ → List Var
front_vars way n = some_row (front_row way n)

-- how many bits come before the packets
abbrev pub front_bits : List Var → ℕ
front_bits vs = 18 + widths vs

-- ---- The readings that are left.

-- this many bits of PADDING
abbrev pub PaddingLeft : ℕ → Reading → Type 0
PaddingLeft n r = (b : List Bool) × (length b ≡ n) × (r ≡ kept PADDING b)

-- PADDING after packets, up to this many bits
abbrev pub PaddedBy : ℕ → Reading → Reading → Type 0
PaddedBy room p r = PaddingLeft (room - length (spelled p)) r

-- what is left of packets, and PADDING after it, in this many bits
abbrev pub Padded : (Reading → Type 0) → ℕ → Reading → Type 0
Padded P room r = Chain P (PaddedBy room) r

-- the same of packets of which this is left
abbrev pub PacketsAfter : PacketsState → Reading → Type 0
PacketsAfter l r = Padded (left_of l.carrier l.room l.stage) (ahead l.carrier l.room l.stage) r

-- packets and PADDING, as many bits as these bytes have after this many
abbrev pub PacketsFrom : (way : Way) → ℕ → ℕ → Reading → Type 0
PacketsFrom way front len r = Padded (PacketsIn (Message way) (8 * len - front)) (8 * len - front) r

-- after an L_MESSAGE of this many bytes: a message of these variables before its packets, or one that is kept
abbrev pub AfterMessageLength : (way : Way) → Option (List Var) → ℕ → Reading → Type 0
AfterMessageLength way None len r = (3 ≤ len) × (len < 2 ^ 10) × KeptIn (8 * len - 18) r
AfterMessageLength way (Some vs) len r = (front_bits vs ≤ 8 * len) × (len < 2 ^ 10) × Then (ReadsFields vs) (PacketsFrom way (front_bits vs) len) r

-- after this NID_MESSAGE
abbrev pub LengthLeft : (way : Way) → ℕ → Reading → Type 0
LengthLeft way nid r = (len : ℕ) × (rest : Reading) × (r ≡ (L_MESSAGE, len) ∷ rest) × AfterMessageLength way (front_row way nid) len rest

-- all of a message of this way
abbrev pub NumberLeft : (way : Way) → Reading → Type 0
NumberLeft way r = (nid : ℕ) × (rest : Reading) × (nid < 2 ^ 8) × (r ≡ (NID_MESSAGE, nid) ∷ rest) × LengthLeft way nid rest

-- the readings that are left if this comes next
abbrev pub left_at : (way : Way) → ℕ → Phase → PacketsState → Reading → Type 0
left_at way nid phase.Number l r = NumberLeft way r
left_at way nid phase.Length l r = LengthLeft way nid r
left_at way nid (phase.Front at) l r = Then (ReadsFields (drop at (front_vars way nid))) (PacketsAfter l) r
left_at way nid phase.Packets l r = PacketsAfter l r
left_at way nid (phase.Padding left) l r = PaddingLeft left r
left_at way nid (phase.Data left) l r = KeptIn left r
left_at way nid phase.Whole l r = r ≡ []

-- the variable that comes next
abbrev pub next_at : (way : Way) → ℕ → Phase → PacketsState → Option Var
next_at way nid phase.Number l = Some NID_MESSAGE
next_at way nid phase.Length l = Some L_MESSAGE
next_at way nid (phase.Front at) l = first_of (drop at (front_vars way nid))
next_at way nid phase.Packets l = next_of l.stage
next_at way nid (phase.Padding left) l = Some PADDING
next_at way nid (phase.Data left) l = Some OTHER_DATA
next_at way nid phase.Whole l = None

-- packets of a message, which leave padding once they are closed
abbrev pub is_message : (way : Way) → PacketsState → Bool
is_message way l = is_carrier way l.carrier && (not (is_closed l.stage) || nat_lt l.room 8)

-- what comes next agrees with how many of the front's numbers are there and with what is left of packets
abbrev pub stands_at : (way : Way) → ℕ → Phase → ℕ → PacketsState → Bool
stands_at way nid phase.Number n l = (n == 0) && is_closed l.stage
stands_at way nid phase.Length n l = (n == 0) && is_closed l.stage
stands_at way nid (phase.Front at) n l = nat_lt at (length (front_vars way nid)) && ((n == at) && is_message way l)
stands_at way nid phase.Packets n l = is_message way l && not (is_closed l.stage)
stands_at way nid (phase.Padding left) n l = nat_lt 0 left && nat_lt left 8
stands_at way nid (phase.Data left) n l = nat_lt 0 left && is_closed l.stage
stands_at way nid phase.Whole n l = true

-- memory may be asked for
abbrev pub may_ask : Phase → PacketsState → Bool
may_ask phase.Number l = false
may_ask phase.Length l = false
may_ask (phase.Front at) l = false
may_ask phase.Packets l = may_grow l.stage
may_ask (phase.Padding left) l = false
may_ask (phase.Data left) l = true
may_ask phase.Whole l = false

-- what comes if this many bits of PADDING are left
abbrev pub after_padding : ℕ → Phase
after_padding left = if nat_lt 0 left then phase.Padding left else phase.Whole

-- what comes after a variable of the packets
abbrev pub after_packets : PacketsState → Phase
after_packets l = if is_closed l.stage then after_padding l.room else phase.Packets

-- what comes after the variables of the front that come before this place
abbrev pub beyond_front : ℕ → ℕ → PacketsState → Phase
beyond_front count at l = if nat_lt at count then phase.Front at else after_packets l

-- what comes if this many bits of a message that is kept are left
abbrev pub after_data : ℕ → Phase
after_data left = if nat_lt 0 left then phase.Data left else phase.Whole

-- ---- What is kept of it.

-- before packets and kept bits nothing is held, and the bits that are left have room after those that are held
abbrev pub DataFits : Phase → Holds → Type 0
DataFits phase.Number holds = holds [] [] []
DataFits phase.Length holds = holds [] [] []
DataFits (phase.Front at) holds = Unit {0}
DataFits phase.Packets holds = Unit {0}
DataFits (phase.Padding left) holds = Unit {0}
DataFits (phase.Data left) holds = (vs : List PacketValue) × (k : List Bool) × holds vs [] k × (length k + left ≤ 8191)
DataFits phase.Whole holds = Unit {0}

-- NID_MESSAGE, L_MESSAGE and these variables after them
abbrev pub headed : ℕ → ℕ → Reading → Reading
headed nid len r = (NID_MESSAGE, nid) ∷ (L_MESSAGE, len) ∷ r

-- q are NID_MESSAGE, L_MESSAGE and the first of the front's variables
pub record FrontHeld (way : Way) (nid : ℕ) (at : ℕ) (front : List ℕ) (l : PacketsState) (holds : Holds) (q : Reading) : Type 0 where
  pub len : ℕ
  pub vars : List Var
  pub typed : front_row way nid ≡ Some vars
  pub none : HoldsAt l.carrier l.stage holds []
  pub most : len < 2 ^ 10
  pub reading_is : q ≡ headed nid len (labelled vars front)
  pub room_is : length (spelled q) + (widths (drop at vars) + ahead l.carrier l.room l.stage) ≡ 8 * len

-- q are all of the front, packets, and variables of the packet that is being read
pub record PacketsHeld (way : Way) (nid : ℕ) (front : List ℕ) (l : PacketsState) (holds : Holds) (q : Reading) : Type 0 where
  pub len : ℕ
  pub vars : List Var
  pub here : Reading
  pub typed : front_row way nid ≡ Some vars
  pub count : length front ≡ length vars
  pub held : HoldsAt l.carrier l.stage holds here
  pub most : len < 2 ^ 10
  pub reading_is : q ≡ headed nid len (labelled vars front ++ here)
  pub room_is : length (spelled q) + ahead l.carrier l.room l.stage ≡ 8 * len

-- q are all of the front, all packets, and the first bits of PADDING
pub record PaddingHeld (way : Way) (nid : ℕ) (front : List ℕ) (holds : Holds) (padding left : ℕ) (q : Reading) : Type 0 where
  pub len : ℕ
  pub vars : List Var
  pub packets : List PacketValue
  pub bits : List Bool
  pub typed : front_row way nid ≡ Some vars
  pub count : length front ≡ length vars
  pub held : holds packets [] []
  pub carried : All (Carries (Message way)) packets
  pub short : length bits + left ≤ 7
  pub small : padding < 2 ^ length bits
  pub padding_is : bits ≡ num (length bits) padding
  pub most : len < 2 ^ 10
  pub reading_is : q ≡ headed nid len (labelled vars front ++ (readings_to way packets ++ kept PADDING bits))
  pub room_is : length (spelled q) + left ≡ 8 * len

-- q are NID_MESSAGE, L_MESSAGE and the first bits of a message that is kept
pub record DataHeld (way : Way) (nid : ℕ) (holds : Holds) (left : ℕ) (q : Reading) : Type 0 where
  pub len : ℕ
  pub bits : List Bool
  pub untyped : front_row way nid ≡ None
  pub least : 3 ≤ len
  pub most : len < 2 ^ 10
  pub held : holds [] [] bits
  pub reading_is : q ≡ headed nid len (kept OTHER_DATA bits)
  pub room_is : 18 + length bits + left ≡ 8 * len

-- q are the variables so far, and what is held is of them
abbrev pub HoldsBy : Way → ℕ → Phase → List ℕ → PacketsState → ℕ → Holds → Reading → Type 0
HoldsBy way nid phase.Number front l padding holds q = (padding ≡ 0) × holds [] [] [] × (q ≡ [])
HoldsBy way nid phase.Length front l padding holds q = (padding ≡ 0) × holds [] [] [] × (q ≡ (NID_MESSAGE, nid) ∷ [])
HoldsBy way nid (phase.Front at) front l padding holds q = (padding ≡ 0) × FrontHeld way nid at front l holds q
HoldsBy way nid phase.Packets front l padding holds q = (padding ≡ 0) × PacketsHeld way nid front l holds q
HoldsBy way nid (phase.Padding left) front l padding holds q = PaddingHeld way nid front holds padding left q
HoldsBy way nid (phase.Data left) front l padding holds q = DataHeld way nid holds left q
HoldsBy way nid phase.Whole front l padding holds q = PaddingHeld way nid front holds padding 0 q ⊎ DataHeld way nid holds 0 q

-- ---- A message of which some was read.

-- its way, NID_MESSAGE, what comes next, the numbers before the packets so far, what is left of packets, PADDING so far
-- as a number, and the store of packets
pub record MessageState (S : Type 0) : Type 0 where
  pub way : Way
  pub nid : ℕ
  pub phase : Phase
  pub front : List ℕ
  pub left : PacketsState
  pub padding : ℕ
  pub store : S
  pub stands : IsTrue (stands_at way nid phase (length front) left)

-- the readings that are left of it
abbrev pub Left : {S : Type 0} → MessageState S → Reading → Type 0
Left s = left_at s.way s.nid s.phase s.left

-- its variable that comes next
abbrev pub next_var : {S : Type 0} → MessageState S → Option Var
next_var s = next_at s.way s.nid s.phase s.left

-- its next variable may ask for memory
abbrev pub MayAsk : {S : Type 0} → MessageState S → Type 0
MayAsk s = IsTrue (may_ask s.phase s.left)

-- q are its variables so far, and what is held is of them
abbrev pub HoldsIn : {S : Type 0} → (S → Holds) → MessageState S → Reading → Type 0
HoldsIn holds s q = HoldsBy s.way s.nid s.phase s.front s.left s.padding (holds s.store) q

-- the variables p lead from the first to the second: what is left, and what is held
pub record Follows {S : Type 0} (holds : S → Holds) (s : MessageState S) (p : Reading) (t : MessageState S) : Type 0 where
  pub same : t.way ≡ s.way
  pub residual : Residual (Left s) p (Left t)
  pub held : (q : Reading) → HoldsIn holds s q → HoldsIn holds t (q ++ p)

-- the same by n bits of xs from at on, after which something is left
abbrev pub Leaps : {S : Type 0} → (S → Holds) → MessageState S → MessageState S → List Bool → ℕ → ℕ → Type 0
Leaps holds s t xs at n = LeapsBy (Left t) (λ p. Follows holds s p t) xs at n
