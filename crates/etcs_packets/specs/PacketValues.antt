-- What a packet stands for: its number, its direction, and its variables or the bits that are kept (SUBSET-026, 7.4);
-- and what its own type guarantees about it.
use Rattle.std.specs.Prelude.{◌≡◌, ℕ, ◌+◌, Bool, List, [], ◌∷◌, length, Option, Some, None, IsTrue}
use Rattle.etcs_vars.specs.declared.var.Var.TheVariants.{NID_VBCMK}
use Rattle.etcs_vars.specs.Vars.{admits}
use Rattle.etcs_vars.specs.Reading.{Reading, spelled}
use Rattle.etcs_tables.specs.declared.row.Way.{Way}
use Rattle.etcs_tables.specs.declared.row.Way.TheVariants.{ToTrain}
use Rattle.etcs_tables.specs.Frames.{frame_bits, is_marker}
use Rattle.etcs_tables.specs.Typed.{IsFramed}
use Rattle.etcs_bodies.specs.Formats.{Format, Is, reading}
use Rattle.etcs_bodies.specs.PacketFormats.{PacketFormat, IsPacketOf, packet_reading}
use Rattle.etcs_flat.specs.Flats.{FlatValue, flat_fault, flat_reading}
use Rattle.etcs_flat.specs.Others.{other_fault}
use Rattle.etcs_parts.specs.Links.{link_format}
use Rattle.etcs_parts.specs.Slopes.{slope_format}
use Rattle.etcs_parts.specs.Speeds.{speed_format}
use Rattle.etcs_parts.specs.ModeSections.{mode_section_format}
use Rattle.etcs_grouped.specs.BaliseLists.{BaliseListValue, IsBaliseList, balise_list_packet}
use Rattle.etcs_grouped.specs.Chains.{ChainValue, IsChain, chain_reading}
use Rattle.etcs_grouped.specs.Level1Mas.{level1_ma_packet}
use Rattle.etcs_grouped.specs.Level23Mas.{level23_ma_packet}
use Rattle.etcs_grouped.specs.LevelOrders.{level_order_packet}
use Rattle.etcs_grouped.specs.ConditionalLevelOrders.{conditional_level_order_packet}
use Rattle.etcs_grouped.specs.PlainTexts.{plain_text_packet}
use Rattle.etcs_grouped.specs.FixedTexts.{fixed_text_packet}
use Rattle.etcs_grouped.specs.InfillLocations.{infill_location_packet}
use Rattle.etcs_grouped.specs.ReportParameters.{report_parameters_packet}
use Rattle.etcs_grouped.specs.TrackConditions.{track_condition_packet}
use Rattle.etcs_packets.specs.declared.packet.Packet.{Packet}

-- what a packet stands for: a marker's number; number, direction and variables of a typed packet; number, direction and
-- bits of a kept one
pub data PacketValue : Type 0 where
  marker : ℕ → PacketValue
  typed : ℕ → ℕ → Reading → PacketValue
  kept : ℕ → ℕ → List Bool → PacketValue

-- the value that a packet stands for, and what its own type guarantees about it
pub record Form : Type 1 where
  pub value : PacketValue
  pub made : Type 0

-- the form of this value and this guarantee
abbrev pub form_of : PacketValue → Type 0 → Form
form_of v h = record { value = v; made = h }

-- the form of a packet without groups
abbrev flat_form : ℕ → FlatValue → Form
flat_form nid p = form_of (typed nid p.dir (flat_reading nid p.numbers)) (flat_fault nid p.dir p.numbers ≡ None)

-- the form of a packet of this format
abbrev packet_form : {B P : Type 0} → ℕ → PacketFormat B P → P → Form
packet_form nid k p = form_of (typed nid (k.direction p) (packet_reading k p)) (IsPacketOf k p)

-- the form of a packet of entries of this format, by the most bits of one
abbrev chain_form : {V : Type 0} → ℕ → ℕ → Format V → ChainValue V → Form
chain_form nid most f p = form_of (typed nid p.dir (chain_reading (reading f) p)) (IsChain (Is f) most (reading f) p)

-- the form of a list of balise groups
abbrev list_form : ℕ → BaliseListValue → Form
list_form nid p = form_of (typed nid p.dir (packet_reading balise_list_packet p)) (IsBaliseList nid p)

-- of a packet to the train what it stands for, and the clauses of the type of its own variant about it
abbrev pub form : Packet → Form
form (Packet.VbcMarker n) = form_of (marker n) (IsTrue (admits NID_VBCMK n))
form (Packet.SystemVersion p) = flat_form 2 p
form (Packet.Linking p) = chain_form 5 49 link_format p
form (Packet.Level1Ma p) = packet_form 12 level1_ma_packet p
form (Packet.Level23Ma p) = packet_form 15 level23_ma_packet p
form (Packet.Repositioning p) = flat_form 16 p
form (Packet.Gradient p) = chain_form 21 24 slope_format p
form (Packet.SpeedProfile p) = chain_form 27 431 speed_format p
form (Packet.LevelOrder p) = packet_form 41 level_order_packet p
form (Packet.SessionManagement p) = flat_form 42 p
form (Packet.RadioNetwork p) = flat_form 45 p
form (Packet.ConditionalLevelOrder p) = packet_form 46 conditional_level_order_packet p
form (Packet.ShuntingList p) = list_form 49 p
form (Packet.MaRequest p) = flat_form 57 p
form (Packet.ReportParameters p) = packet_form 58 report_parameters_packet p
form (Packet.SrList p) = list_form 63 p
form (Packet.InhibitTsr p) = flat_form 64 p
form (Packet.Tsr p) = flat_form 65 p
form (Packet.TsrRevocation p) = flat_form 66 p
form (Packet.TrackCondition p) = packet_form 68 track_condition_packet p
form (Packet.PlainText p) = packet_form 72 plain_text_packet p
form (Packet.FixedText p) = packet_form 76 fixed_text_packet p
form (Packet.ModeProfile p) = chain_form 80 55 mode_section_format p
form (Packet.RbcTransition p) = flat_form 131 p
form (Packet.DangerForShunting p) = flat_form 132 p
form (Packet.StopShunting p) = flat_form 135 p
form (Packet.InfillLocation p) = packet_form 136 infill_location_packet p
form (Packet.StopInSr p) = flat_form 137 p
form (Packet.TrainRunningNumber p) = flat_form 140 p
form (Packet.TsrGradient p) = flat_form 141 p
form (Packet.InhibitConsistency p) = flat_form 145 p
form (Packet.DefaultInformation p) = flat_form 254 p
form (Packet.Other p) = form_of (kept p.nid p.dir p.body) (other_fault ToTrain p.nid p.dir (length p.body) ≡ None)

-- what a packet to the train stands for: a marker's number; number, direction and variables of a typed packet; number,
-- direction and bits of a kept one
abbrev pub packet_value : Packet → PacketValue
packet_value p = (form p).value

-- the clauses of the type of a packet's own variant about it
abbrev pub IsMade : Packet → Type 0
IsMade p = (form p).made

-- a packet's NID_PACKET
abbrev pub nid_of : PacketValue → ℕ
nid_of (marker n) = 0
nid_of (typed nid dir r) = nid
nid_of (kept nid dir b) = nid

-- a packet's Q_DIR; none of packet 0
abbrev pub dir_of : PacketValue → Option ℕ
dir_of (marker n) = None
dir_of (typed nid dir r) = Some dir
dir_of (kept nid dir b) = Some dir

-- the variables after a packet's frame: NID_VBCMK of packet 0, none of kept bits
abbrev pub variables_of : PacketValue → Reading
variables_of (marker n) = (NID_VBCMK, n) ∷ []
variables_of (typed nid dir r) = r
variables_of (kept nid dir b) = []

-- the bits after a packet's frame, if they are kept
abbrev pub kept_of : PacketValue → Option (List Bool)
kept_of (marker n) = None
kept_of (typed nid dir r) = None
kept_of (kept nid dir b) = Some b

-- the packet has this number and direction
abbrev pub IsTypedOf : ℕ → ℕ → PacketValue → Type 0
IsTypedOf nid dir p = (nid_of p ≡ nid) × (dir_of p ≡ Some dir)

-- ---- As it goes one way.

-- how many bits a packet takes one way with its frame: 14 of packet 0
abbrev pub bits_to : Way → PacketValue → ℕ
bits_to way (marker n) = 14
bits_to way (typed nid dir r) = frame_bits way + length (spelled r)
bits_to way (kept nid dir b) = frame_bits way + length b

-- there is such a packet one way: a marker whose number is admitted, variables of its row, or a kept packet without
-- fault
abbrev pub IsPacketTo : Way → PacketValue → Type 0
IsPacketTo way (marker n) = IsTrue (is_marker way n)
IsPacketTo way (typed nid dir r) = IsFramed way nid dir r
IsPacketTo way (kept nid dir b) = other_fault way nid dir (length b) ≡ None

-- ---- To the train, as all packets of this crate.

-- how many bits a packet takes to the train with its frame: 14 of packet 0, else 23 and the bits after it
abbrev pub bits_of : PacketValue → ℕ
bits_of v = bits_to ToTrain v

-- there is such a packet to the train
abbrev pub IsPacket : PacketValue → Type 0
IsPacket v = IsPacketTo ToTrain v
