-- Items to begin with: header and packets in which each variable has its least number and each list is empty.
use Rattle.std.specs.Prelude.{ℕ, ◌+◌, ◌-◌, ◌*◌, ◌/◌, ◌==◌, true, false, List, [], ◌∷◌, ◌++◌, length, map, flat_map, replicate, Option, Some, None, if◌then◌else◌}
use Rattle.etcs_vars.specs.declared.var.Var.{Var}
use Rattle.etcs_vars.specs.declared.var.Var.TheVariants.{NID_PACKET, NID_VBCMK, NID_MESSAGE, L_MESSAGE, Q_SCALE, FILL, PAD, PADDING, OTHER_DATA}
use Rattle.etcs_vars.specs.Vars.{ranges, same_name}
use Rattle.etcs_vars.specs.Reading.{Reading, spelled, kept}
use Rattle.etcs_tables.specs.declared.row.Way.{Way}
use Rattle.etcs_tables.specs.declared.row.Way.TheVariants.{ToTrain, ToTrack}
use Rattle.etcs_tables.specs.Layouts.{Layout, whole, one, guarded, counted, passes}
use Rattle.etcs_tables.specs.Rows.{row_to, message_row_to}
use Rattle.etcs_tables.specs.Headers.{header_row, head_row}
use Rattle.etcs_packets.specs.PacketReadings.{in_frame}
use Rattle.etcs_text.specs.declared.entry.Kind.{Kind}
use Rattle.etcs_text.specs.declared.entry.Kind.TheVariants.{Long, Short, Radio, Train}

-- the least end of the first of the ranges
abbrev pub least : List (ℕ × ℕ) → ℕ
least [] = 0
least (r ∷ rs) = r.0

-- the number that a variable has: Q_SCALE has 1, a metre, and each other variable the least that it admits
abbrev pub first_number : Var → ℕ
first_number v = if same_name v Q_SCALE then 1 else least (ranges v)

-- a variable and its number
abbrev pub first_pair : Var → Reading
first_pair v = (v, first_number v) ∷ []

-- the variables of a row after the number n, each with its number, without the entries of lists
abbrev pub blank_row : Layout → ℕ → Reading
blank_row whole n = []
blank_row (one v rest) n = (v, first_number v) ∷ blank_row rest (first_number v)
blank_row (guarded g group rest) n = (if passes g.test n then blank_row group n else []) ++ blank_row rest n
blank_row (counted group rest) n = blank_row rest n

-- those of a row, if there is one
abbrev pub blank_fields : Option Layout → Reading
blank_fields None = []
blank_fields (Some row) = blank_row row 0

-- the packet of this number: NID_PACKET and NID_VBCMK of packet 0 to the train; else its frame, to the train with Q_DIR 1, and
-- the variables of its row, or nothing if the number isn't typed
abbrev pub blank_packet : Way → ℕ → Reading
blank_packet ToTrain nid = if nid == 0 then (NID_PACKET, 0) ∷ first_pair NID_VBCMK else in_frame ToTrain nid 1 (length (spelled (blank_fields (row_to ToTrain nid)))) (blank_fields (row_to ToTrain nid))
blank_packet ToTrack nid = in_frame ToTrack nid 1 (length (spelled (blank_fields (row_to ToTrack nid)))) (blank_fields (row_to ToTrack nid))

-- packets of these numbers
abbrev pub blank_packets : Way → List ℕ → Reading
blank_packets way nids = flat_map (blank_packet way) nids

-- the header and packets of these numbers, with packet 255
unfoldable pub blank_front : List ℕ → Reading
blank_front nids = map (λ v. (v, first_number v)) header_row ++ blank_packets ToTrain nids ++ (NID_PACKET, 255) ∷ []

-- this before ones in FILL up to this many user bits, and before this many zeros in PAD
unfoldable pub filled : ℕ → ℕ → Reading → Reading
filled user pad r = r ++ kept FILL (replicate (user - length (spelled r)) true) ++ kept PAD (replicate pad false)

-- what a message of this number has after L_MESSAGE and before its packets: header and variables of its row, or nothing if the
-- number isn't typed
abbrev pub blank_own : Way → Option Layout → Reading
blank_own way None = []
blank_own way (Some row) = map (λ v. (v, first_number v)) (head_row way) ++ blank_row row 0

-- what fills the last byte of a message: PADDING, or OTHER_DATA if the number isn't typed
abbrev pub closes : Option Layout → Var
closes None = OTHER_DATA
closes (Some row) = PADDING

-- how many bytes this many bits after L_MESSAGE make, with the 18 bits before them
abbrev pub bytes_of : ℕ → ℕ
bytes_of bits = (18 + bits + 7) / 8

-- the message of this number with this between L_MESSAGE and what fills the last byte with zeros
unfoldable pub closed : ℕ → Var → Reading → Reading
closed nid var r = (NID_MESSAGE, nid) ∷ (L_MESSAGE, bytes_of (length (spelled r))) ∷ r ++ kept var (replicate (8 * bytes_of (length (spelled r)) - (18 + length (spelled r))) false)

-- the message of the first number with packets of the others; nothing without a number
unfoldable pub blank_message : Way → List ℕ → Reading
blank_message way [] = []
blank_message way (nid ∷ nids) = closed nid (closes (message_row_to way nid)) (blank_own way (message_row_to way nid) ++ blank_packets way nids)

-- the item of the kind with packets of these numbers, for messages after their own
abbrev pub blank_reading : Kind → List ℕ → Reading
blank_reading Long nids = filled 830 2 (blank_front nids)
blank_reading Short nids = filled 210 6 (blank_front nids)
blank_reading Radio nids = blank_message ToTrain nids
blank_reading Train nids = blank_message ToTrack nids
