-- What holds of each way.
use Rattle.std.proofs.Common.{◌≡◌, ℕ, ◌+◌, ◌≤◌, ◌<◌, ◌^◌, Bool, true, false, ltb, leb, ◌&&◌, List, length, Option, Some, None, refl, arith}
use Rattle.std.proofs.lemmas.Bool.{ltb-true}
use Rattle.std.proofs.lemmas.Bool.Decides.{nat_tests}
use Rattle.etcs_vars.specs.declared.var.Var.{Var}
use Rattle.etcs_tables.specs.declared.row.Way.{Way}
use Rattle.etcs_tables.specs.declared.row.Way.TheVariants.{ToTrain, ToTrack}
use Rattle.etcs_tables.specs.Frames.{frame_bits}
use Rattle.etcs_tables.specs.Layouts.{Layout}
use Rattle.etcs_tables.specs.MessageRows.{header_bits}
use Rattle.etcs_tables.specs.Rows.{message_row_to, message_rows_to}
use Rattle.etcs_tables.proofs.EachRow.{of_each}
use Rattle.etcs_rows.specs.declared.frames.Carrier.{Carrier}
use Rattle.etcs_rows.specs.declared.frames.Carrier.TheVariants.{Telegram, Message}
use Rattle.etcs_rows.proofs.MessageLengths.{is_flat}
use Rattle.etcs_flat.specs.Flats.{variables}
use Rattle.etcs_packets.specs.PacketValues.{PacketValue, nid_of}
use Rattle.etcs_sequence.specs.Contents.{IsUnmarked}
use Rattle.etcs_sequence.specs.Labels.{widths}
use Rattle.etcs_sequence.proofs.Asking.{asked_after}
use Rattle.etcs_messages.specs.Kinds.{is_carrier}
use Rattle.etcs_tables.specs.Headers.{head_row}
use Rattle.etcs_messages.specs.Messages.{is_marker}

pub carrier_is : (way : Way) (c : Carrier) → is_carrier way c ≡ true → c ≡ Message way
carrier_is way Telegram e = absurd cc
carrier_is ToTrain (Message ToTrain) e = refl
carrier_is ToTrain (Message ToTrack) e = absurd cc
carrier_is ToTrack (Message ToTrain) e = absurd cc
carrier_is ToTrack (Message ToTrack) e = refl

pub carrier_to : (way : Way) → is_carrier way (Message way) ≡ true
carrier_to ToTrain = refl
carrier_to ToTrack = refl

-- NID_MESSAGE, L_MESSAGE and the rest of the header
pub header_is : (way : Way) → header_bits way ≡ 18 + widths (head_row way)
header_is ToTrain = refl
header_is ToTrack = refl

pub header_few : (way : Way) → header_bits way ≤ 75
header_few ToTrain = omega arith
header_few ToTrack = omega arith

pub header_least : (way : Way) → 18 ≤ header_bits way
header_least ToTrain = omega arith
header_least ToTrack = omega arith

pub asked_few : (way : Way) → asked_after way ≤ header_bits way
asked_few ToTrain = omega arith
asked_few ToTrack = omega arith

pub head_some : (way : Way) → 0 < length (head_row way)
head_some ToTrain = omega arith
head_some ToTrack = omega arith

pub head_short : (way : Way) → length (head_row way) ≤ 3
head_short ToTrain = omega arith
head_short ToTrack = omega arith

pub frame_few : (way : Way) → frame_bits way ≤ 23
frame_few ToTrain = omega arith
frame_few ToTrack = omega arith

pub frame_some : (way : Way) → 7 < frame_bits way
frame_some ToTrain = omega arith
frame_some ToTrack = omega arith

-- ---- Its rows have no groups, and at most two variables, of at most 32 bits.

pub row_flat : (way : Way) (n : ℕ) (row : Layout) → message_row_to way n ≡ Some row → is_flat row ≡ true
row_flat ToTrain n row is = of_each (λ m r. is_flat r) (message_rows_to ToTrain) n row refl is
row_flat ToTrack n row is = of_each (λ m r. is_flat r) (message_rows_to ToTrack) n row refl is

abbrev pub few : Option (List Var) → Bool
few None = true
few (Some own) = leb (widths own) 32 && leb (length own) 2

pub row_few : (way : Way) (n : ℕ) (row : Layout) → message_row_to way n ≡ Some row → few (variables row) ≡ true
row_few ToTrain n row is = of_each (λ m r. few (variables r)) (message_rows_to ToTrain) n row refl is
row_few ToTrack n row is = of_each (λ m r. few (variables r)) (message_rows_to ToTrack) n row refl is

pub row_small : (way : Way) (n : ℕ) (row : Layout) → message_row_to way n ≡ Some row → n < 2 ^ 8
row_small ToTrain n row is = ltb-true n 256 (of_each (λ m r. ltb m 256) (message_rows_to ToTrain) n row refl is)
row_small ToTrack n row is = ltb-true n 256 (of_each (λ m r. ltb m 256) (message_rows_to ToTrack) n row refl is)

-- number 0 isn't typed
pub none_typed : (way : Way) → message_row_to way 0 ≡ None
none_typed ToTrain = refl
none_typed ToTrack = refl

-- ---- Packets of a message.

-- packet 0 is a marker, which telegrams alone have
pub unmarked_is : (way : Way) (v : PacketValue) → IsUnmarked way (nid_of v) → is_marker way v ≡ false
unmarked_is ToTrain v h = grind (arith, nat_tests)
unmarked_is ToTrack v h = refl

pub unmarked_of : (way : Way) (v : PacketValue) → is_marker way v ≡ false → IsUnmarked way (nid_of v)
unmarked_of ToTrain v h = grind (arith, nat_tests)
unmarked_of ToTrack v h = tt
