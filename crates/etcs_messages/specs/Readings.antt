-- What is in a message, part by part, and its one reading (SUBSET-026, chapter 8).
use Rattle.std.specs.Prelude.{ℕ, ◌+◌, ◌/◌, Bool, List, [], ◌∷◌, ◌++◌, length, drop, take, Option, Some, None}
use Rattle.etcs_bits.specs.Bits.{num}
use Rattle.etcs_vars.specs.declared.var.Var.{Var}
use Rattle.etcs_vars.specs.declared.var.Var.TheVariants.{NID_MESSAGE, L_MESSAGE, PADDING, OTHER_DATA}
use Rattle.etcs_vars.specs.Reading.{Reading, kept}
use Rattle.etcs_tables.specs.declared.row.Way.{Way}
use Rattle.etcs_packets.specs.PacketValues.{Form}
use Rattle.etcs_packets.specs.PacketReadings.{readings_to}
use Rattle.etcs_messages.specs.declared.message.Content.{Content}
use Rattle.etcs_messages.specs.declared.message.Content.TheVariants.{Typed, Kept}
use Rattle.etcs_messages.specs.Kinds.{HeadOf, OwnOf}
use Rattle.etcs_tables.specs.Headers.{head_row}
use Rattle.etcs_messages.specs.Messages.{all_bits, padding_room, head_reading, values_of}

-- the head of a typed message
abbrev pub head_of : {H B P : Type 0} → Content H B P → Option H
head_of (Typed head body ps padding) = Some head
head_of (Kept nid b) = None

-- the body of a typed message
abbrev pub body_of : {H B P : Type 0} → Content H B P → Option B
body_of (Typed head body ps padding) = Some body
body_of (Kept nid b) = None

-- the bits of a message that is kept
abbrev pub kept_of : {H B P : Type 0} → Content H B P → Option (List Bool)
kept_of (Typed head body ps padding) = None
kept_of (Kept nid b) = Some b

-- the packets of a typed message; none of one that is kept
abbrev pub packets_of : {H B P : Type 0} → Content H B P → List P
packets_of (Typed head body ps padding) = ps
packets_of (Kept nid b) = []

-- PADDING of a typed message as a number; 0 of one that is kept
abbrev pub padding_of : {H B P : Type 0} → Content H B P → ℕ
padding_of (Typed head body ps padding) = padding
padding_of (Kept nid b) = 0

-- the number of a message
abbrev pub nid_of_message : {H B P : Type 0} → OwnOf B → Content H B P → ℕ
nid_of_message o (Typed head body ps padding) = o.nid body
nid_of_message o (Kept nid b) = nid

-- the variables between L_MESSAGE and the packets
abbrev pub own_reading : {H B P : Type 0} → HeadOf H → OwnOf B → Content H B P → Reading
own_reading k o (Typed head body ps padding) = k.reading head ++ o.reading body
own_reading k o (Kept nid b) = []

module _ {H B P : Type 0} (way : Way) (o : OwnOf B) (form : P → Form) where
  -- how many bits of PADDING a typed message has; 0 of one that is kept
  abbrev pub padding_bits_of : Content H B P → ℕ
  padding_bits_of (Typed head body ps padding) = padding_room (all_bits way o form body ps)
  padding_bits_of (Kept nid b) = 0

  -- how many bits come before PADDING
  abbrev pub unpadded_bits : Content H B P → ℕ
  unpadded_bits (Typed head body ps padding) = all_bits way o form body ps
  unpadded_bits (Kept nid b) = 18 + length b

  -- L_MESSAGE: all bits in whole bytes
  abbrev pub bytes_of : Content H B P → ℕ
  bytes_of m = (unpadded_bits m + 7) / 8

module _ {H B P : Type 0} (way : Way) (k : HeadOf H) (o : OwnOf B) (form : P → Form) where
  -- what comes before the packets: NID_MESSAGE and L_MESSAGE, and of a typed message the rest of the header and the
  -- body
  abbrev pub front_reading : Content H B P → Reading
  front_reading (Typed head body ps padding) = head_reading (o.nid body) (bytes_of way o form (Typed head body ps padding)) (k.reading head) ++ o.reading body
  front_reading (Kept nid b) = (NID_MESSAGE, nid) ∷ (L_MESSAGE, bytes_of {H = H} way o form (Kept nid b)) ∷ []

  -- the message as it is sent, with one variable for each bit of PADDING or of a message that is kept
  abbrev pub message_reading : Content H B P → Reading
  message_reading (Typed head body ps padding) =
      front_reading (Typed head body ps padding) ++ readings_to way (values_of form ps) ++ kept PADDING (num (padding_room (all_bits way o form body ps)) padding)
  message_reading (Kept nid b) = front_reading (Kept nid b) ++ kept OTHER_DATA b

-- the message of a number that is typed, by the numbers of its variables, or of one that isn't
abbrev pub content_by : {H B P : Type 0} → Way → HeadOf H → OwnOf B → Option (List Var) → ℕ → List ℕ → List P → List Bool → ℕ → Content H B P
content_by way k o None nid front ps bits padding = Kept nid bits
content_by way k o (Some vars) nid front ps bits padding = Typed (k.made (take (length (head_row way)) front)) (o.made nid (drop (length (head_row way)) front)) ps padding
