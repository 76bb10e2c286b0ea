-- What a reader of messages stands for, computed from what it keeps, and what it holds between two pieces (SUBSET-026,
-- chapter 8).
use Rattle.std.specs.Prelude.{◌≡◌, ℕ, ◌+◌, ◌-◌, ◌/◌, ◌<◌, Bool, List, [], ◌∷◌, ◌++◌, length, drop, Option, Some, None, All, ◌⊎◌}
use Rattle.etcs_bits.specs.Bits.{num}
use Rattle.etcs_vars.specs.declared.var.Var.{Var}
use Rattle.etcs_vars.specs.declared.var.Var.TheVariants.{NID_MESSAGE, PADDING, OTHER_DATA}
use Rattle.etcs_vars.specs.Reading.{Reading, spelled, kept}
use Rattle.etcs_packets.specs.PacketValues.{Form, IsPacketTo}
use Rattle.etcs_packets.specs.PacketReadings.{readings_to}
use Rattle.etcs_sequence.specs.Runs.{Begun}
use Rattle.etcs_sequence.specs.AtOnce.{Holds}
use Rattle.etcs_sequence.specs.declared.list.PacketList.{PacketList}
use Rattle.etcs_sequence.specs.Labels.{labelled, widths}
use Rattle.etcs_sequence.specs.Lefts.{ahead}
use Rattle.etcs_sequence.specs.Held.{packets_so_far}
use Rattle.etcs_sequence.specs.Holdings.{HeldIn}
use Rattle.etcs_sequence.specs.Readables.{IsPart}
use Rattle.etcs_messages.specs.declared.phase.Phase.{Phase}
use Rattle.etcs_messages.specs.declared.phase.Phase.TheVariants as phase
use Rattle.etcs_messages.specs.Messages.{padding_room, MessageLanguage, MessageReads, values_of}
use Rattle.etcs_tables.specs.declared.row.Way.{Way}
use Rattle.etcs_messages.specs.declared.message.Content.{Content}
use Rattle.etcs_messages.specs.Kinds.{HeadOf, OwnOf}
use Rattle.etcs_messages.specs.Readings.{content_by}
use Rattle.etcs_messages.specs.Lefts.{front_row, front_vars, headed, MessageState, Left, HoldsIn, Follows}

-- NID_MESSAGE, the L_MESSAGE of a message with this many bits more, and these variables
abbrev pub measured : ℕ → Reading → ℕ → Reading
measured nid r more = headed nid ((18 + length (spelled r) + more) / 8) r

-- all of the front, these packets and PADDING but for this many bits that are left
abbrev pub padded : Reading → ℕ → ℕ → Reading
padded r number left = r ++ kept PADDING (num (padding_room (18 + length (spelled r)) - left) number)

-- the front after L_MESSAGE, and packets
abbrev pub packed : {P : Type 0} → Way → (P → Form) → ℕ → List ℕ → List P → Reading
packed way form nid front ps = labelled (front_vars way nid) front ++ readings_to way (values_of form ps)

-- all variables of a typed message or of one that is kept
abbrev pub whole_far : {P : Type 0} → Way → (P → Form) → Option (List Var) → ℕ → List ℕ → PacketList P → ℕ → Reading
whole_far way form None nid front store number = measured nid (kept OTHER_DATA store.bits) 0
whole_far way form (Some vars) nid front store number = measured nid (padded (packed way form nid front store.packets.items) number 0) 0

-- the variables so far if this comes next and the packets go to this list
abbrev pub far_at : {P S : Type 0} → (P → Form) → PacketList P → Phase → MessageState S → Reading
far_at form list phase.Number s = []
far_at form list phase.Length s = (NID_MESSAGE, s.nid) ∷ []
far_at form list (phase.Front at) s = measured s.nid (labelled (front_vars s.way s.nid) s.front) (widths (drop at (front_vars s.way s.nid)) + ahead s.left.carrier s.left.room s.left.stage)
far_at form list phase.Packets s = measured s.nid (labelled (front_vars s.way s.nid) s.front ++ packets_so_far form s.left.carrier s.left.stage list.packets.items list.numbers.items list.bits) (ahead s.left.carrier s.left.room s.left.stage)
far_at form list (phase.Padding left) s = measured s.nid (padded (packed s.way form s.nid s.front list.packets.items) s.padding left) left
far_at form list (phase.Data left) s = measured s.nid (kept OTHER_DATA list.bits) left
far_at form list phase.Whole s = whole_far s.way form (front_row s.way s.nid) s.nid s.front list s.padding

-- the variables so far, computed from what the reader keeps
abbrev pub so_far : {P S : Type 0} → (P → Form) → (S → PacketList P) → MessageState S → Reading
so_far form list s = far_at form (list s.store) s.phase s

-- the message of what was kept, once nothing is left
abbrev pub message_by : {H B P S : Type 0} → Way → HeadOf H → OwnOf B → (S → PacketList P) → MessageState S → Content H B P
message_by way head own list s = content_by way head own (front_row way s.nid) s.nid s.front (list s.store).packets.items (list s.store).bits s.padding

-- q are the variables so far of a message of this way, and what is held is of them
abbrev pub OwnHeld : {S : Type 0} → (S → Holds) → Way → MessageState S → Reading → Type 0
OwnHeld holds way s q = (s.way ≡ way) × HoldsIn holds s q

-- ---- What one pass leaves.

-- the first n bits of a piece spell whole variables of a message that lead to what is left in rest
abbrev pub IsMessagePart : {S : Type 0} → (S → Holds) → Way → List Bool → MessageState S → ℕ → Type 0
IsMessagePart holds way xs rest n = IsPart Left (Follows holds) (OwnHeld holds way) (MessageReads way) 1023 xs rest n

-- ---- What it holds between two pieces.

-- NID_MESSAGE, L_MESSAGE and variables before the packets, as far as they were read
abbrev pub InFront : Way → Reading → Type 0
InFront way far =
    (far ≡ [])
    ⊎ (((nid : ℕ) × (far ≡ (NID_MESSAGE, nid) ∷ []))
    ⊎ ((nid : ℕ) × (len : ℕ) × (vars : List Var) × (front : List ℕ) × (front_row way nid ≡ Some vars) × (length front < length vars) × (far ≡ headed nid len (labelled vars front))))

-- all of the front, whole packets and what is there of the next one
abbrev pub InPackets : {P : Type 0} → Way → (P → Form) → List P → List ℕ → List Bool → Reading → Type 0
InPackets way form ps f k far =
    (nid : ℕ) × (len : ℕ) × (vars : List Var) × (front : List ℕ) × (here : Reading) × (front_row way nid ≡ Some vars) × (length front ≡ length vars)
    × (far ≡ headed nid len (labelled vars front ++ (readings_to way (values_of form ps) ++ here))) × Begun way here f k

-- NID_MESSAGE, L_MESSAGE and the first bits of a message that is kept
abbrev pub InData : Way → List Bool → Reading → Type 0
InData way k far = (nid : ℕ) × (len : ℕ) × (front_row way nid ≡ None) × (far ≡ headed nid len (kept OTHER_DATA k))

-- the whole variables are some of the front's; or the whole front, the packets and what is begun of the next; or
-- NID_MESSAGE, L_MESSAGE and bits of a message that is kept. No bit of PADDING is among them: it ends a message, with
-- its last byte
abbrev pub Standing : {P : Type 0} → Way → (P → Form) → List P → List ℕ → List Bool → Reading → Type 0
Standing way form ps f k far =
    (InFront way far × (ps ≡ []) × (f ≡ []) × (k ≡ []))
    ⊎ (InPackets way form ps f k far
    ⊎ (InData way k far × (ps ≡ []) × (f ≡ [])))

-- packets, numbers and kept bits are all that is held of the whole variables far, and each packet is as its type admits
-- it
abbrev pub Members : {P : Type 0} → Way → (P → Form) → List P → List ℕ → List Bool → Reading → Type 0
Members way form ps f k far = Standing way form ps f k far × All (λ p. (form p).made) ps × All (IsPacketTo way) (values_of form ps)

-- of the same bits, any two packets, numbers, kept bits, part and taken with HeldIn are equal, all five
abbrev pub OneHolding : {P : Type 0} → Way → (P → Form) → Type 0
OneHolding {P} way form =
    (b : List Bool) (ps qs : List P) (f g : List ℕ) (k l : List Bool) (part part' taken taken' : ℕ)
    → HeldIn (MessageLanguage way) (Members way form ps f k) b part taken → HeldIn (MessageLanguage way) (Members way form qs g l) b part' taken' → (ps ≡ qs) × (f ≡ g) × (k ≡ l) × (part ≡ part') × (taken ≡ taken')
