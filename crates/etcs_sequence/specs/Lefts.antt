-- What is left of packets in a room, what comes next of it, and what its variables so far are (SUBSET-026, 7.4 and 8).
use Rattle.std.specs.Prelude.{◌≡◌, ℕ, ◌+◌, ◌-◌, ◌≤◌, Bool, true, false, List, [], ◌∷◌, ◌++◌, ◌==◌, length, Option, Some, None, is_some, ◌&&◌, nat_lt, All, IsTrue}
use Rattle.etcs_vars.specs.declared.var.Var.{Var}
use Rattle.etcs_vars.specs.declared.var.Var.TheVariants.{NID_PACKET, NID_VBCMK, Q_DIR, L_PACKET, OTHER_DATA}
use Rattle.etcs_vars.specs.Walking.{Residual}
use Rattle.etcs_vars.specs.Reading as reading
use Rattle.etcs_vars.specs.Reading.{Reading, Then, spelled, numbers}
use Rattle.etcs_tables.specs.declared.row.Way.{Way}
use Rattle.etcs_tables.specs.declared.row.Way.TheVariants.{ToTrain, ToTrack}
use Rattle.etcs_rows.specs.declared.frames.Carrier.{Carrier}
use Rattle.etcs_rows.specs.declared.frames.Carrier.TheVariants.{Telegram, Message}
use Rattle.etcs_tables.specs.Layouts.{Layout, looks, ReadsIn}
use Rattle.etcs_tables.specs.Rows.{row_to}
use Rattle.etcs_tables.specs.Frames.{head_bits, kept_limit, is_framed, is_kept, is_direction, directed}
use Rattle.etcs_rows.specs.Frames.{way_of}
use Rattle.etcs_rows.specs.Places.{first_variable}
use Rattle.etcs_packets.specs.PacketValues as packets
use Rattle.etcs_packets.specs.PacketValues.{PacketValue}
use Rattle.etcs_packets.specs.PacketReadings.{in_frame, reading_to, readings_to}
use Rattle.etcs_sequence.specs.AtOnce.{Holds}
use Rattle.etcs_sequence.specs.Contents.{closing, Carries, PacketsIn, KeptIn, LengthLeft, DirectionLeft, MarkerLeft}
use Rattle.etcs_sequence.specs.declared.stage.Stage.{Stage}
use Rattle.etcs_sequence.specs.declared.stage.Stage.TheVariants.{Number, Marker, Direction, Length, Row, Kept, Closed}
use Rattle.etcs_sequence.specs.declared.stage.Event.{Event}
use Rattle.etcs_sequence.specs.declared.stage.Keep.{Keep}
use Rattle.etcs_sequence.specs.declared.stage.Keep.TheVariants as keep
use Rattle.etcs_sequence.specs.declared.stage.Event.TheVariants as event

-- the variable that comes next
abbrev pub next_of : Stage → Option Var
next_of Number = Some NID_PACKET
next_of Marker = Some NID_VBCMK
next_of (Direction nid) = Some Q_DIR
next_of (Length nid dir) = Some L_PACKET
next_of (Row nid dir row) = first_variable row.place
next_of (Kept nid dir left) = Some OTHER_DATA
next_of Closed = None

-- what comes after the number of a packet that has a frame: to the track L_PACKET at once
abbrev pub after_framed : Way → ℕ → Stage
after_framed ToTrain nid = Direction nid
after_framed ToTrack nid = Length nid 0

-- the readings of packets that are left at a stage; the room counts from the packet's first bit until its length is
-- known
abbrev pub left_of : Carrier → ℕ → Stage → Reading → Type 0
left_of c room Number = PacketsIn c room
left_of c room Marker = MarkerLeft room
left_of c room (Direction nid) = DirectionLeft c nid room
left_of c room (Length nid dir) = LengthLeft c nid room
left_of c room (Row nid dir row) = Then (ReadsIn row.place row.len) (PacketsIn c room)
left_of c room (Kept nid dir left) = Then (KeptIn left) (PacketsIn c room)
left_of c room Closed = λ r. r ≡ []

-- how many bits of the room are left after the variables that were read
abbrev pub ahead : Carrier → ℕ → Stage → ℕ
ahead c room Number = room
ahead c room Marker = room - 8
ahead c room (Direction nid) = room - 8
ahead c room (Length nid dir) = room - head_bits (way_of c)
ahead c room (Row nid dir row) = row.len + room
ahead c room (Kept nid dir left) = left + room
ahead c room Closed = room

-- more packets come, or packet 255, in a room of this many bits
abbrev pub is_open : Carrier → ℕ → Bool
is_open Telegram room = true
is_open (Message way) room = nat_lt 7 room

-- a telegram carries the packets
abbrev pub is_telegram : Carrier → Bool
is_telegram Telegram = true
is_telegram (Message way) = false

-- the stage is one that packets in this room can come to
abbrev pub is_stage : Carrier → ℕ → Stage → Bool
is_stage c room Number = is_open c room
is_stage c room Marker = is_telegram c
is_stage c room (Direction nid) = is_framed (way_of c) nid
is_stage c room (Length nid dir) = is_framed (way_of c) nid && is_direction (way_of c) dir
is_stage c room (Row nid dir row) = is_some (row_to (way_of c) nid) && (is_direction (way_of c) dir && is_some (first_variable row.place))
is_stage c room (Kept nid dir left) = is_kept (way_of c) nid && (is_direction (way_of c) dir && nat_lt 0 left)
is_stage c room Closed = true

-- nothing comes next: the packets are closed
abbrev pub is_closed : Stage → Bool
is_closed Number = false
is_closed Marker = false
is_closed (Direction nid) = false
is_closed (Length nid dir) = false
is_closed (Row nid dir row) = false
is_closed (Kept nid dir left) = false
is_closed Closed = true

-- memory may be needed for what comes next: a packet is made, or a list grows
abbrev pub may_grow : Stage → Bool
may_grow Number = true
may_grow Marker = true
may_grow (Direction nid) = false
may_grow (Length nid dir) = true
may_grow (Row nid dir row) = true
may_grow (Kept nid dir left) = true
may_grow Closed = false

-- ---- From one variable to another.

-- by the variables p, what is left at the stage s of a room becomes what is left at s', the residual, and the bits of
-- the room that are left become fewer by theirs
pub record Moved (c : Carrier) (room : ℕ) (s : Stage) (p : Reading) (c' : Carrier) (room' : ℕ) (s' : Stage) : Type 0 where
  pub same : c' ≡ c
  pub residual : Residual (left_of c room s) p (left_of c' room' s')
  pub ahead_is : ahead c room s ≡ length (spelled p) + ahead c' room' s'

-- ---- The packet that is being read.

-- h are the frame and the first variables of a row, with the numbers f, after which `left` is left of it, in `len` bits
pub record RowHere (way : Way) (nid dir : ℕ) (left : Layout) (len : ℕ) (f : List ℕ) (h : Reading) : Type 0 where
  pub row : Layout
  pub total : ℕ
  pub read : Reading
  pub typed : row_to way nid ≡ Some row
  pub looks_well : IsTrue (looks None row)
  pub short : total ≤ kept_limit way
  pub residual : Residual (ReadsIn row total) read (ReadsIn left len)
  pub here : h ≡ in_frame way nid dir total read
  pub numbers_are : numbers read ≡ f

-- h are the variables so far of the packet that is being read, with the numbers f of its row or the bits k that are
-- kept
abbrev pub Here : Carrier → Stage → List ℕ → List Bool → Reading → Type 0
Here c Number f k h = (f ≡ []) × (k ≡ []) × (h ≡ [])
Here c Marker f k h = (f ≡ []) × (k ≡ []) × (h ≡ (NID_PACKET, 0) ∷ [])
Here c (Direction nid) f k h = (f ≡ []) × (k ≡ []) × (h ≡ (NID_PACKET, nid) ∷ [])
Here c (Length nid dir) f k h = (f ≡ []) × (k ≡ []) × (h ≡ (NID_PACKET, nid) ∷ directed (way_of c) dir [])
Here c (Row nid dir row) f k h = (k ≡ []) × RowHere (way_of c) nid dir row.place row.len f h
Here c (Kept nid dir left) f k h = (f ≡ []) × (length k + left ≤ kept_limit (way_of c)) × (h ≡ in_frame (way_of c) nid dir (length k + left) (reading.kept OTHER_DATA k))
Here c Closed f k h = (f ≡ []) × (k ≡ []) × (h ≡ closing c)

-- where the number of the variable that comes next is kept
abbrev pub keeps_at : Stage → Keep
keeps_at Number = keep.Nothing
keeps_at Marker = keep.Nothing
keeps_at (Direction nid) = keep.Nothing
keeps_at (Length nid dir) = keep.Nothing
keeps_at (Row nid dir row) = keep.Number
keeps_at (Kept nid dir left) = keep.Bit
keeps_at Closed = keep.Nothing

-- the numbers f of a row, with n after them if it is one of them
abbrev pub numbers_with : Keep → List ℕ → ℕ → List ℕ
numbers_with keep.Nothing f n = f
numbers_with keep.Number f n = f ++ n ∷ []
numbers_with keep.Bit f n = f

-- the kept bits k, with n after them if it is one of them
abbrev pub bits_with : Keep → List Bool → ℕ → List Bool
bits_with keep.Nothing k n = k
bits_with keep.Number k n = k
bits_with keep.Bit k n = k ++ (n == 1) ∷ []

-- h are the variables of the packet that is being read, or those of one that is whole now
abbrev pub After : Carrier → Stage → List ℕ → List Bool → Reading → Event → Type 0
After c s f k h event.More = Here c s f k h
After c s f k h (event.Marker m) = (f ≡ []) × (k ≡ []) × Carries c (packets.marker m) × (h ≡ reading_to (way_of c) (packets.marker m)) × Here c s [] [] []
After c s f k h (event.Typed nid dir) = (k ≡ []) × ((r : Reading) × (Carries c (packets.typed nid dir r) × (numbers r ≡ f) × (h ≡ reading_to (way_of c) (packets.typed nid dir r)))) × Here c s [] [] []
After c s f k h (event.Kept nid dir) = (f ≡ []) × Carries c (packets.kept nid dir k) × (h ≡ reading_to (way_of c) (packets.kept nid dir k)) × Here c s [] [] []

-- what the number n of x did to the packet that is being read
abbrev pub Becomes : Carrier → Stage → Var → ℕ → Event → Stage → Type 0
Becomes c s x n e s' = (f : List ℕ) (k : List Bool) (h : Reading) → Here c s f k h → After c s' (numbers_with (keeps_at s) f n) (bits_with (keeps_at s) k n) (h ++ (x, n) ∷ []) e

-- ---- All packets.

-- q are the variables so far: those of whole packets and those of the one that is being read, whose numbers or bits are
-- held with the packets
abbrev pub HoldsAt : Carrier → Stage → (List PacketValue → List ℕ → List Bool → Type 0) → Reading → Type 0
HoldsAt c s holds q = (vs : List PacketValue) × (f : List ℕ) × (k : List Bool) × (h : Reading) × holds vs f k × All (Carries c) vs × Here c s f k h × (q ≡ readings_to (way_of c) vs ++ h)

-- ---- A packet that is whole.

-- H holds packets, and of the one that is being read, or that an event made whole, its numbers or bits
abbrev pub MayFinish : Way → Holds → Event → Type 0
MayFinish way H e = (c : Carrier) × (s : Stage) × (vs : List PacketValue) × (f : List ℕ) × (k : List Bool) × (h : Reading) × (way_of c ≡ way) × H vs f k × After c s f k h e

-- by an event what H holds becomes what H' holds: a packet that it made whole is after the others
abbrev pub Finishes : Way → Holds → Holds → Event → Type 0
Finishes way H H' e = (c : Carrier) (s : Stage) (vs : List PacketValue) (f : List ℕ) (k : List Bool) (h : Reading) → way_of c ≡ way → H vs f k → All (Carries c) vs → After c s f k h e → HoldsAt c s H' (readings_to (way_of c) vs ++ h)
