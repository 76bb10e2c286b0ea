-- The definitions, computed on whole messages.
use Rattle.std.proofs.Common.{◌≡◌, ℕ, List, true, false, [], ◌∷◌, Some, None, refl}
use Rattle.std.specs.Prelude.{Option, negsuc, replicate}
use Rattle.etcs_bits.specs.Bits.{num, bits}
use Rattle.etcs_vars.specs.declared.var.Var.TheVariants.{NID_MESSAGE, NID_LRBG, NID_EM, NID_PACKET, PADDING}
use Rattle.etcs_vars.specs.declared.fault.BuildFault.TheVariants.{NotAdmitted, FillLength}
use Rattle.etcs_vars.specs.declared.fault.BuildFault.{BuildFault}
use Rattle.etcs_vars.specs.Reading.{Reading, spelled}
use Rattle.etcs_packets.specs.declared.packet.Packet.TheVariants.{VbcMarker, StopInSr}
use Rattle.etcs_tables.specs.declared.row.Way.TheVariants.{ToTrain}
use Rattle.etcs_packets.specs.declared.packet.Packet.{Packet}
use Rattle.etcs_packets.specs.PacketValues.{form}
use Rattle.etcs_messages.specs.Messages as messages
use Rattle.etcs_messages.specs.Messages.{padding_room}
use Rattle.etcs_messages.specs.Readings as readings
use Rattle.etcs_messages.specs.declared.message.Content.TheVariants.{Typed, Kept}
use Rattle.etcs_radio.specs.declared.body.Body.{Body}
use Rattle.etcs_radio.specs.declared.body.Body.TheVariants.{Plain, Emergency, Shifted}
use Rattle.etcs_radio.specs.declared.body.RadioHead.{RadioHead}
use Rattle.etcs_radio.specs.Bodies.{radio_head, radio_body}
use Rattle.etcs_radio.specs.Messages.{Content}

abbrev message_reading : Content → Reading
message_reading m = readings.message_reading ToTrain radio_head radio_body form m

abbrev message_fault : RadioHead → Body → List Packet → Option BuildFault
message_fault head body ps = messages.message_fault ToTrain radio_head radio_body form head body ps

abbrev padded_fault : RadioHead → Body → List Packet → ℕ → Option BuildFault
padded_fault head body ps padding = messages.padded_fault ToTrain radio_head radio_body form head body ps padding

abbrev kept_fault : ℕ → ℕ → Option BuildFault
kept_fault nid bits = messages.kept_fault ToTrain nid bits

abbrev head : RadioHead
head = record { t_train = 0; m_ack = false; nid_lrbg = 16385 }

-- an emergency stop, with and without a bit of PADDING set
pub emergency_bits : spelled (message_reading (Typed head (Emergency 16 5) [] 0)) ≡ bits (0x10 ∷ 0x02 ∷ 0x80 ∷ 0 ∷ 0 ∷ 0 ∷ 0 ∷ 0x08 ∷ 0 ∷ 0x2A ∷ [])
unfolding num bits
emergency_bits = refl

pub emergency_padded : spelled (message_reading (Typed head (Emergency 16 5) [] 1)) ≡ bits (0x10 ∷ 0x02 ∷ 0x80 ∷ 0 ∷ 0 ∷ 0 ∷ 0 ∷ 0x08 ∷ 0 ∷ 0x2B ∷ [])
unfolding num bits
emergency_padded = refl

pub plain_bits : spelled (message_reading (Typed head (Plain 6) [] 0)) ≡ bits (0x06 ∷ 0x02 ∷ 0x80 ∷ 0 ∷ 0 ∷ 0 ∷ 0 ∷ 0x08 ∷ 0 ∷ 0x20 ∷ [])
unfolding num bits
plain_bits = refl

-- a packet 137 after the header
pub packet_bits : spelled (message_reading (Typed head (Plain 24) (StopInSr (record { dir = 1; numbers = 1 ∷ [] }) ∷ []) 0)) ≡ bits (0x18 ∷ 0x03 ∷ 0x40 ∷ 0 ∷ 0 ∷ 0 ∷ 0 ∷ 0x08 ∷ 0 ∷ 0x31 ∷ 0x28 ∷ 0x06 ∷ 0x20 ∷ [])
unfolding num bits
packet_bits = refl

-- a location that is moved by -100
pub shifted_bits : spelled (message_reading (Typed head (Shifted 1 (negsuc 99)) [] 0)) ≡ bits (0x21 ∷ 0x03 ∷ 0 ∷ 0 ∷ 0 ∷ 0 ∷ 0 ∷ 0x08 ∷ 0 ∷ 0x2F ∷ 0xFC ∷ 0xE0 ∷ [])
unfolding num bits
shifted_bits = refl

-- message 15, which is kept as bits
pub kept_bits : spelled (message_reading (Kept 15 (replicate 6 true))) ≡ bits (0x0F ∷ 0 ∷ 0xFF ∷ [])
unfolding num bits
kept_bits = refl

-- a text of 255 bytes: 2,257 bits up to PADDING
pub text_room : padding_room 2257 ≡ 7
text_room = refl

-- ---- Faults, the first alone.

pub no_plain : message_fault head (Plain 2) [] ≡ Some (NotAdmitted NID_MESSAGE)
no_plain = refl

pub number_first : message_fault (record { t_train = 0; m_ack = false; nid_lrbg = 16777216 }) (Plain 2) [] ≡ Some (NotAdmitted NID_MESSAGE)
number_first = refl

pub group_next : message_fault (record { t_train = 0; m_ack = false; nid_lrbg = 16777216 }) (Emergency 16 16) (VbcMarker 3 ∷ []) ≡ Some (NotAdmitted NID_LRBG)
group_next = refl

pub stop_next : message_fault head (Emergency 16 16) (VbcMarker 3 ∷ []) ≡ Some (NotAdmitted NID_EM)
stop_next = refl

pub no_marker : message_fault head (Plain 24) (VbcMarker 3 ∷ []) ≡ Some (NotAdmitted NID_PACKET)
no_marker = refl

pub one_bit_left : padded_fault head (Emergency 16 5) [] 2 ≡ Some (NotAdmitted PADDING)
unfolding num
one_bit_left = refl

pub kept_number : kept_fault 24 6 ≡ Some (NotAdmitted NID_MESSAGE)
kept_number = refl

pub kept_least : (kept_fault 15 6 ≡ None) × (kept_fault 15 5 ≡ Some FillLength) × (kept_fault 15 7 ≡ Some FillLength)
kept_least = (refl, refl, refl)

pub kept_most : (kept_fault 15 8166 ≡ None) × (kept_fault 15 8174 ≡ Some FillLength)
kept_most = (refl, refl)
