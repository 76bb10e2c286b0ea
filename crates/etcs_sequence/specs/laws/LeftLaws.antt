-- What the reader asks of packets in a room.
use Rattle.std.proofs.Common.{◌≡◌, ℕ, ◌+◌, ◌-◌, ◌<◌, Bool, List, [], ◌++◌, ◌&&◌, length, Some, None, refl, sym, ap, subst, ◌∙◌, arith, append_assoc, inl, inr}
use Rattle.std.specs.Prelude.{IsTrue, Option, is_some, nat_lt}
use Rattle.std.proofs.lemmas.Bool.{ltb-true}
use Rattle.std.proofs.lemmas.List.{append-nil, length-append}
use Rattle.etcs_vars.specs.declared.var.Var.{Var}
use Rattle.etcs_vars.specs.declared.var.Var.TheVariants.{NID_PACKET, NID_VBCMK, Q_DIR, L_PACKET, OTHER_DATA}
use Rattle.etcs_vars.specs.Reading.{Reading, Then, spelled}
use Rattle.etcs_vars.proofs.Walk.{Regular}
use Rattle.etcs_vars.specs.laws.Spellings.{spelled-append}
use Rattle.etcs_tables.specs.declared.row.Way.{Way}
use Rattle.etcs_rows.specs.declared.frames.Carrier.{Carrier}
use Rattle.etcs_rows.specs.declared.frames.Carrier.TheVariants.{Telegram, Message}
use Rattle.etcs_tables.specs.Layouts.{Layout, ReadsIn}
use Rattle.etcs_tables.specs.Rows.{row_to}
use Rattle.etcs_tables.specs.Frames.{frame_bits, is_kept, is_direction}
use Rattle.etcs_rows.specs.Frames.{way_of}
use Rattle.etcs_rows.specs.Places.{first_variable}
use Rattle.etcs_rows.proofs.PlaceLemmas.{and_both}
use Rattle.etcs_rows.specs.laws.RestLaws as rows
use Rattle.etcs_packets.specs.PacketValues.{PacketValue}
use Rattle.etcs_sequence.specs.Contents.{PacketsIn, KeptIn, BodyIn, BodyLeft, AfterLength, LengthLeft, AfterDirection, DirectionLeft, AfterMarker, MarkerLeft, AfterNumber, IsOpen}
use Rattle.etcs_sequence.specs.laws.Agreement.{run_regular}
use Rattle.etcs_sequence.specs.laws.RunSteps.{number_step, marker_step, direction_step, length_step}
use Rattle.etcs_sequence.specs.laws.Turns.{row_body}
use Rattle.etcs_reader.specs.Rests.{BeginsWith, Ended}
use Rattle.etcs_reader.specs.laws.FieldLaws.{residual_none, residual_along}
use Rattle.etcs_sequence.specs.declared.stage.Stage.{Stage}
use Rattle.etcs_sequence.specs.declared.stage.Stage.TheVariants.{Number, Marker, Direction, Length, Row, Kept, Closed}
use Rattle.etcs_sequence.specs.Lefts.{next_of, left_of, is_open, is_stage, Moved, HoldsAt}
use Rattle.etcs_rows.specs.laws.RestLaws.{row_begins_with}
use Rattle.etcs_sequence.specs.laws.ThenLaws.{then_regular, then_begins_with}
use Rattle.etcs_sequence.specs.laws.OpenLaws.{part_regular, opens_begins, opens_regular}
use Rattle.etcs_sequence.specs.laws.BitLaws.{bits_regular, bits_begin}

kept_by : (way : Way) (nid bits : ℕ) (r : Reading) → row_to way nid ≡ None → BodyIn way nid bits r → KeptIn bits r
kept_by way nid bits r none (inl (row, e, l)) = let two : ◌≡◌ {A = Option Layout} None (Some row) = sym none ∙ e in absurd cc
kept_by way nid bits r none (inr (k, b)) = b

body_regular : (way : Way) (nid bits : ℕ) (found : Option Layout) → row_to way nid ≡ found → Regular (BodyIn way nid bits)
body_regular way nid bits (Some row) e = part_regular (BodyIn way nid bits) (ReadsIn row bits) (λ r b. row_body way nid bits row r e b) (rows.regular row bits)
body_regular way nid bits None e = part_regular (BodyIn way nid bits) (KeptIn bits) (λ r b. kept_by way nid bits r e b) (bits_regular OTHER_DATA refl bits)

length_regular : (c : Carrier) (nid room : ℕ) → Regular (LengthLeft c nid room)
length_regular c nid room =
    opens_regular (LengthLeft c nid room) L_PACKET (AfterLength c nid room) (length_step c nid room)
    (λ l. let bits = l - frame_bits (way_of c) in
    part_regular (AfterLength c nid room l) (BodyLeft c nid bits (room - l)) (λ r h. h.3)
    (then_regular (BodyIn (way_of c) nid bits) (PacketsIn c (room - l)) (body_regular (way_of c) nid bits (row_to (way_of c) nid) refl) (run_regular c (room - l))))

direction_regular : (c : Carrier) (nid room : ℕ) → Regular (DirectionLeft c nid room)
direction_regular c nid room =
    opens_regular (DirectionLeft c nid room) Q_DIR (AfterDirection c nid room) (direction_step c nid room)
    (λ dir. part_regular (AfterDirection c nid room dir) (LengthLeft c nid room) (λ r h. h.1) (length_regular c nid room))

marker_regular : (room : ℕ) → Regular (MarkerLeft room)
marker_regular room = opens_regular (MarkerLeft room) NID_VBCMK (AfterMarker room) (marker_step room) (λ n. part_regular (AfterMarker room n) (PacketsIn Telegram (room - 14)) (λ r h. h.2) (run_regular Telegram (room - 14)))

pub left_regular : (c : Carrier) (room : ℕ) (s : Stage) → Regular (left_of c room s)
left_regular c room Number = run_regular c room
left_regular c room Marker = marker_regular room
left_regular c room (Direction nid) = direction_regular c nid room
left_regular c room (Length nid dir) = length_regular c nid room
left_regular c room (Row nid dir row) = then_regular (ReadsIn row.place row.len) (PacketsIn c room) (rows.regular row.place row.len) (run_regular c room)
left_regular c room (Kept nid dir left) = then_regular (KeptIn left) (PacketsIn c room) (bits_regular OTHER_DATA refl left) (run_regular c room)
left_regular c room Closed = record { agree = λ a b e f. rw (e, f) tt; fit = λ a e. rw e tt }

-- more packets come, or packet 255
pub open_by : (c : Carrier) (room : ℕ) → IsTrue (is_open c room) → IsOpen c room
open_by Telegram room h = tt
open_by (Message way) room h = ltb-true 7 room h

-- bits are left
pub some_left : (c : Carrier) (room nid dir left : ℕ) → IsTrue (is_stage c room (Kept nid dir left)) → 0 < left
some_left c room nid dir left stands = ltb-true 0 left (and_both (is_direction (way_of c) dir) (nat_lt 0 left) (and_both (is_kept (way_of c) nid) (is_direction (way_of c) dir && nat_lt 0 left) stands).1).1

pub left_begins : (c : Carrier) (room : ℕ) (s : Stage) → IsTrue (is_stage c room s) → (x : Var) → next_of s ≡ Some x → BeginsWith (left_of c room s) x
left_begins c room Number stands x e = let same : NID_PACKET ≡ x = cc in subst (BeginsWith (PacketsIn c room)) same (opens_begins (PacketsIn c room) NID_PACKET (AfterNumber c room) (number_step c room (open_by c room stands)))
left_begins c room Marker stands x e = let same : NID_VBCMK ≡ x = cc in subst (BeginsWith (MarkerLeft room)) same (opens_begins (MarkerLeft room) NID_VBCMK (AfterMarker room) (marker_step room))
left_begins c room (Direction nid) stands x e =
    let same : Q_DIR ≡ x = cc in
    subst (BeginsWith (DirectionLeft c nid room)) same (opens_begins (DirectionLeft c nid room) Q_DIR (AfterDirection c nid room) (direction_step c nid room))
left_begins c room (Length nid dir) stands x e =
    let same : L_PACKET ≡ x = cc in
    subst (BeginsWith (LengthLeft c nid room)) same (opens_begins (LengthLeft c nid room) L_PACKET (AfterLength c nid room) (length_step c nid room))
left_begins c room (Row nid dir row) stands x e = then_begins_with (ReadsIn row.place row.len) (PacketsIn c room) x (row_begins_with row.place row.len x e)
left_begins c room (Kept nid dir left) stands x e =
    let same : OTHER_DATA ≡ x = cc in
    subst (BeginsWith (Then (KeptIn left) (PacketsIn c room))) same (then_begins_with (KeptIn left) (PacketsIn c room) OTHER_DATA (bits_begin OTHER_DATA refl left (some_left c room nid dir left stands)))
left_begins c room Closed stands x e = absurd cc

pub left_ended : (c : Carrier) (room : ℕ) (s : Stage) → IsTrue (is_stage c room s) → next_of s ≡ None → Ended (left_of c room s)
left_ended c room Number stands e = absurd cc
left_ended c room Marker stands e = absurd cc
left_ended c room (Direction nid) stands e = absurd cc
left_ended c room (Length nid dir) stands e = absurd cc
left_ended c room (Row nid dir row) stands e =
    let some = (and_both (is_direction (way_of c) dir) (is_some (first_variable row.place)) (and_both (is_some (row_to (way_of c) nid)) (is_direction (way_of c) dir && is_some (first_variable row.place)) stands).1).1 in
    let none = rw e at some in
    absurd cc
left_ended c room (Kept nid dir left) stands e = absurd cc
left_ended c room Closed stands e = λ r h. h

-- ---- Any stages.

pub moved_none : (c : Carrier) (room : ℕ) (s : Stage) → Moved c room s [] c room s
moved_none c room s = record { same = refl; residual = residual_none (left_of c room s); ahead_is = omega arith }

pub moved_along : (c : Carrier) (room : ℕ) (s : Stage) (p : Reading) (c' : Carrier) (room' : ℕ) (s' : Stage) (q : Reading) (d : Carrier) (room'' : ℕ) (s'' : Stage) → Moved c room s p c' room' s' → Moved c' room' s' q d room'' s'' → Moved c room s (p ++ q) d room'' s''
moved_along c room s p c' room' s' q d room'' s'' h k = record {
  same = k.same ∙ h.same;
  residual = residual_along (left_of c room s) p (left_of c' room' s') q (left_of d room'' s'') h.residual k.residual;
  ahead_is = let l : length (spelled (p ++ q)) ≡ length (spelled p) + length (spelled q) = ap length (spelled-append p q) ∙ length-append (spelled p) (spelled q) in let a = h.ahead_is in let b = k.ahead_is in omega (arith, l, a, b);
}

pub held_none : (c : Carrier) (s : Stage) (holds : List PacketValue → List ℕ → List Bool → Type 0) (q : Reading) → HoldsAt c s holds q → HoldsAt c s holds (q ++ [])
held_none c s holds q h = subst (HoldsAt c s holds) (sym (append-nil q)) h

pub held_along : (c : Carrier) (s : Stage) (holds : List PacketValue → List ℕ → List Bool → Type 0) (p : Reading) (c' : Carrier) (s' : Stage) (holds' : List PacketValue → List ℕ → List Bool → Type 0) (q : Reading) (d : Carrier) (s'' : Stage) (holds'' : List PacketValue → List ℕ → List Bool → Type 0)
    → ((r : Reading) → HoldsAt c s holds r → HoldsAt c' s' holds' (r ++ p)) → ((r : Reading) → HoldsAt c' s' holds' r → HoldsAt d s'' holds'' (r ++ q)) → (r : Reading) → HoldsAt c s holds r → HoldsAt d s'' holds'' (r ++ (p ++ q))
held_along c s holds p c' s' holds' q d s'' holds'' h k r x = subst (HoldsAt d s'' holds'') (append_assoc r p q) (k (r ++ p) (h r x))
