-- Messages of a way: header, the variables of the number's row, packets, and 0 to 7 bits of PADDING up to whole bytes;
-- or, of a number that isn't typed, bits that are kept after L_MESSAGE (SUBSET-026, chapter 8).
use Rattle.std.specs.Prelude.{◌≡◌, ℕ, ◌+◌, ◌-◌, ◌*◌, ◌/◌, ◌%◌, ◌^◌, ◌≤◌, ◌<◌, Bool, false, List, [], ◌∷◌, ◌++◌, length, map, IsTrue, All, Option, Some, None, if◌then◌else◌, ◌==◌, nat_lt, ◌||◌}
use Rattle.std.specs.Option.{is_some}
use Rattle.std.specs.List.{list_any}
use Rattle.etcs_bits.specs.Bits.{num}
use Rattle.etcs_vars.specs.declared.fault.BuildFault.{BuildFault}
use Rattle.etcs_vars.specs.declared.fault.BuildFault.TheVariants.{NotAdmitted, TooLong, FillLength}
use Rattle.etcs_vars.specs.declared.var.Var.TheVariants.{NID_MESSAGE, L_MESSAGE, NID_PACKET, PADDING, OTHER_DATA}
use Rattle.etcs_vars.specs.Faults.{◌or_else◌}
use Rattle.etcs_vars.specs.Reading.{Reading, spelled, kept, readings_of, IsAdmitted}
use Rattle.etcs_tables.specs.declared.row.Way.{Way}
use Rattle.etcs_tables.specs.declared.row.Way.TheVariants.{ToTrain, ToTrack}
use Rattle.etcs_tables.specs.Layouts.{Layout, Reads}
use Rattle.etcs_tables.specs.Rows.{message_row_to}
use Rattle.etcs_tables.specs.MessageRows.{header_bits}
use Rattle.etcs_rows.specs.declared.frames.Carrier.TheVariants as carrier
use Rattle.etcs_reader.specs.Fields.{ReadsFields}
use Rattle.etcs_packets.specs.PacketValues.{PacketValue, Form, nid_of, IsPacketTo}
use Rattle.etcs_packets.specs.PacketReadings.{readings_to}
use Rattle.etcs_sequence.specs.Contents.{ReadsPackets}
use Rattle.etcs_messages.specs.Kinds.{HeadOf, OwnOf, IsOwn}
use Rattle.etcs_tables.specs.Headers.{head_row}
use Rattle.etcs_messages.specs.declared.message.Content.{Content}
use Rattle.etcs_messages.specs.declared.message.Content.TheVariants.{Typed, Kept}

-- NID_MESSAGE and L_MESSAGE, and the rest of the header after them
abbrev pub head_reading : ℕ → ℕ → Reading → Reading
head_reading nid len head = (NID_MESSAGE, nid) ∷ (L_MESSAGE, len) ∷ head

-- what a message stands for
pub data MessageValue : Type 0 where
  -- its number, the rest of the header, the variables of its row, packets, and the bits of PADDING; each packet is its
  -- number, direction and variables or kept bits
  typed_message : ℕ → Reading → Reading → List PacketValue → List Bool → MessageValue
  -- its number and the bits that are kept
  kept_message : ℕ → List Bool → MessageValue

-- how many bits come before the packets, with this body
abbrev pub front_of : Way → Reading → ℕ
front_of way body = header_bits way + length (spelled body)

-- for some number of bytes and the row of the number: body is a reading of the row, the header is admitted, the packets
-- are a run in the bits that are left (none to the train has number 0, at most 7 bits stay), all with PADDING is
-- exactly the bytes, and r is all of it
pub record TypedReads (way : Way) (nid : ℕ) (head body : Reading) (vs : List PacketValue) (padding : List Bool) (r : Reading) : Type 0 where
  pub len : ℕ
  pub row : Layout
  pub typed_number : message_row_to way nid ≡ Some row
  pub body_reads : Reads row [] body
  pub head_reads : ReadsFields (head_row way) head
  pub head_admitted : IsAdmitted (head_reading nid len head)
  pub run : ReadsPackets (carrier.Message way) (8 * len - front_of way body) vs (readings_to way vs)
  pub bytes : front_of way body + length (spelled (readings_to way vs)) + length padding ≡ 8 * len
  pub reading_is : r ≡ head_reading nid len head ++ body ++ readings_to way vs ++ kept PADDING padding

-- the number isn't typed, NID_MESSAGE, L_MESSAGE of 3 to 1,023 and the bits are exactly the bytes, and r is all of it
pub record KeptReads (way : Way) (nid : ℕ) (b : List Bool) (r : Reading) : Type 0 where
  pub len : ℕ
  pub untyped : message_row_to way nid ≡ None
  pub small : nid < 2 ^ 8
  pub least : 3 ≤ len
  pub most : len < 2 ^ 10
  pub bytes : 18 + length b ≡ 8 * len
  pub reading_is : r ≡ (NID_MESSAGE, nid) ∷ (L_MESSAGE, len) ∷ kept OTHER_DATA b

-- r is the reading of the message, typed or kept
abbrev pub MessageReads : Way → MessageValue → Reading → Type 0
MessageReads way (typed_message nid head body vs padding) r = TypedReads way nid head body vs padding r
MessageReads way (kept_message nid b) r = KeptReads way nid b r

-- the readings of all messages that go this way
abbrev pub MessageLanguage : Way → Reading → Type 0
MessageLanguage way = readings_of (MessageReads way)

-- ---- What a message holds.

-- how many bits are left up to whole bytes: 0 to 7
abbrev pub padding_room : ℕ → ℕ
padding_room bits = (bits + 7) / 8 * 8 - bits

-- packet 0 without a frame, which goes to the train alone
abbrev pub is_marker : Way → PacketValue → Bool
is_marker ToTrain v = nid_of v == 0
is_marker ToTrack v = false

-- what packets stand for
abbrev pub values_of : {P : Type 0} → (P → Form) → List P → List PacketValue
values_of form ps = map (λ p. (form p).value) ps

-- the first fault of a message that is kept: the number is typed, or with the 18 bits before them the bits aren't 3 to
-- 1,023 whole bytes
abbrev pub kept_fault : Way → ℕ → ℕ → Option BuildFault
kept_fault way nid bits =
    (if is_some (message_row_to way nid) then Some (NotAdmitted NID_MESSAGE) else None)
    or_else (if nat_lt bits 6 || nat_lt 8166 bits then Some FillLength else if (bits + 18) % 8 == 0 then None else Some FillLength)

-- how many bits header, body and packets take
abbrev pub all_bits : {B P : Type 0} → Way → OwnOf B → (P → Form) → B → List P → ℕ
all_bits way o form body ps = front_of way (o.reading body) + length (spelled (readings_to way (values_of form ps)))

-- the first fault of head and body: the number isn't one of the variant's, then the head's variables, then the body's
abbrev pub front_fault : {H B : Type 0} → HeadOf H → OwnOf B → H → B → Option BuildFault
front_fault k o head body = (if o.is_of_variant body then None else Some (NotAdmitted NID_MESSAGE)) or_else k.fault head or_else o.fault body

module _ {H B P : Type 0} (way : Way) (k : HeadOf H) (o : OwnOf B) (form : P → Form) where
  -- the first fault of a typed message's parts, in order: head and body, a packet 0 to the train, more than 8,184 bits
  abbrev pub message_fault : H → B → List P → Option BuildFault
  message_fault head body ps =
      front_fault k o head body
      or_else (if list_any (λ p. is_marker way (form p).value) ps then Some (NotAdmitted NID_PACKET) else None)
      or_else (if nat_lt 8184 (all_bits way o form body ps) then Some TooLong else None)

  -- and after these that the number of PADDING needs more bits than are left
  abbrev pub padded_fault : H → B → List P → ℕ → Option BuildFault
  padded_fault head body ps padding =
      message_fault head body ps
      or_else (if nat_lt padding (2 ^ padding_room (all_bits way o form body ps)) then None else Some (NotAdmitted PADDING))

  -- what a message of this content stands for
  abbrev pub message_value : Content H B P → MessageValue
  message_value (Typed head body ps padding) = typed_message (o.nid body) (k.reading head) (o.reading body) (values_of form ps) (num (padding_room (all_bits way o form body ps)) padding)
  message_value (Kept nid b) = kept_message nid b

  -- the parts of a typed message have no fault, and each is as its own type admits it
  pub record IsTyped (head : H) (body : B) (ps : List P) (padding : ℕ) : Type 0 where
    pub no_fault : padded_fault head body ps padding ≡ None
    pub head_types : k.Fits head
    pub own : IsOwn o body
    pub made : All (λ p. (form p).made) ps
    pub packets : All (IsPacketTo way) (values_of form ps)

  -- what each message keeps: no fault applies, and its numbers fit the types that hold them
  abbrev pub IsMessage : Content H B P → Type 0
  IsMessage (Typed head body ps padding) = IsTyped head body ps padding
  IsMessage (Kept nid b) = (nid < 2 ^ 8) × (kept_fault way nid (length b) ≡ None)
