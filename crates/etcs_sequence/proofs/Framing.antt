-- After a variable of a frame.
use Rattle.std.proofs.Common.{◌≡◌, ℕ, ◌-◌, ◌^◌, ◌<◌, ◌≤◌, [], ◌∷◌, refl, arith, inl, inr}
use Rattle.std.specs.Prelude.{IsTrue, true, false}
use Rattle.std.proofs.lemmas.Bool.{and_from}
use Rattle.etcs_vars.specs.declared.var.Var.TheVariants.{NID_PACKET, NID_VBCMK, Q_DIR}
use Rattle.etcs_vars.specs.Reading.{Reading}
use Rattle.etcs_vars.proofs.Languages.{Same, same_along, same_back}
use Rattle.etcs_tables.specs.Frames.{is_framed, frame_bits, head_bits, sends}
use Rattle.etcs_tables.specs.declared.row.Way.{Way}
use Rattle.etcs_tables.specs.declared.row.Way.TheVariants.{ToTrain, ToTrack}
use Rattle.etcs_rows.specs.declared.frames.Carrier.{Carrier}
use Rattle.etcs_rows.specs.declared.frames.Carrier.TheVariants.{Telegram, Message}
use Rattle.etcs_rows.specs.Frames.{way_of}
use Rattle.etcs_sequence.specs.Contents.{PacketsIn, LengthLeft, AfterDirection, DirectionLeft, AfterMarker, MarkerLeft, AfterNumber, FrameLeft}
use Rattle.etcs_sequence.specs.laws.RunSteps.{number_step, marker_step, direction_step}
use Rattle.etcs_sequence.proofs.Turns.{after_closing, after_zero, after_marker, after_direction, unframed_is, beyond_number, framed_left}
use Rattle.etcs_reader.specs.Rests.{Starts}
use Rattle.etcs_sequence.specs.declared.stage.Event.TheVariants.{More}
use Rattle.etcs_sequence.specs.declared.stage.Stage.{Stage}
use Rattle.etcs_sequence.specs.declared.stage.Stage.TheVariants.{Number, Marker, Direction, Length, Closed}
use Rattle.etcs_sequence.specs.Lefts.{after_framed, left_of, ahead, is_open, is_telegram, Becomes, Moved, is_stage, Here}
use Rattle.etcs_sequence.specs.laws.LeftLaws.{open_by}
use Rattle.etcs_sequence.specs.laws.OpenLaws.{opens_beyond, opens_number}
use Rattle.etcs_sequence.proofs.Moving.{moved_by}
use Rattle.etcs_sequence.specs.laws.Framed.{framed_small, frame_between, sent_directed}

-- ---- NID_PACKET.

number_parts : (c : Carrier) (room n : ℕ) → ((r : Reading) × AfterNumber c room n r) → (8 ≤ room) × (n < 2 ^ 8)
number_parts c room n (r, inl (same, is, le, e)) = (le, omega (arith, is))
number_parts c room n (r, inr (inl (same, is, (m, q, e, (a, le, run))))) = (omega (arith, le), omega (arith, is))
number_parts c room n (r, inr (inr (framed, (dir, q, e, a, (l, q', e', (least, most, le, b)))))) = (omega (arith, least, le, (frame_between (way_of c)).0), framed_small (way_of c) n framed)

-- what holds of the stage after the number of a frame
pub framed_stands : (c : Carrier) (room n : ℕ) → IsTrue (is_framed (way_of c) n) → IsTrue (is_stage c room (after_framed (way_of c) n))
framed_stands Telegram room n framed = framed
framed_stands (Message ToTrain) room n framed = framed
framed_stands (Message ToTrack) room n framed = and_from (is_framed ToTrack n) true framed refl

framed_ahead : (c : Carrier) (room n : ℕ) → ahead c room (after_framed (way_of c) n) ≡ room - 8
framed_ahead Telegram room n = refl
framed_ahead (Message ToTrain) room n = refl
framed_ahead (Message ToTrack) room n = refl

framed_is : (c : Carrier) (n : ℕ) → Here c (after_framed (way_of c) n) [] [] ((NID_PACKET, n) ∷ [])
framed_is Telegram n = (refl, refl, refl)
framed_is (Message ToTrain) n = (refl, refl, refl)
framed_is (Message ToTrack) n = (refl, refl, refl)

module _ (c : Carrier) (room n : ℕ) (more : IsTrue (is_open c room)) (starts : Starts (PacketsIn c room) NID_PACKET 0 n) where
  some : (r : Reading) × AfterNumber c room n r
  some = opens_number (PacketsIn c room) NID_PACKET (AfterNumber c room) (number_step c room (open_by c room more)) n starts

  pub number_room : 8 ≤ room
  number_room = (number_parts c room n some).0

  pub number_small : n < 2 ^ 8
  number_small = (number_parts c room n some).1

  number_moved : (room' : ℕ) (s : Stage) → ahead c room' s ≡ room - 8 → Same (AfterNumber c room n) (left_of c room' s) → Moved c room Number ((NID_PACKET, n) ∷ []) c room' s
  number_moved room' s bits same =
      let beyond = opens_beyond (PacketsIn c room) NID_PACKET (AfterNumber c room) (number_step c room (open_by c room more)) n in
      moved_by c room Number NID_PACKET n room' s (AfterNumber c room n) beyond same (omega (arith, bits, number_room))

  -- any number with a frame
  pub framed_moved : IsTrue (is_framed (way_of c) n) → Moved c room Number ((NID_PACKET, n) ∷ []) c room (after_framed (way_of c) n)
  framed_moved framed = number_moved room (after_framed (way_of c) n) (framed_ahead c room n) (same_along (AfterNumber c room n) (FrameLeft c n room) (left_of c room (after_framed (way_of c) n)) (beyond_number c room n framed) (framed_left c room n))

  pub framed_here : Becomes c Number NID_PACKET n More (after_framed (way_of c) n)
  framed_here f k h (e1, e2, e3) = rw (e1, e2, e3) (framed_is c n)

  module _ (unframed : is_framed (way_of c) n ≡ false) where
    -- 255 closes the packets
    closing : n ≡ 255 → (c ≡ Telegram) × Same (AfterNumber c room n) (left_of c (room - 8) Closed)
    closing is = let b = after_closing c room (rw is at unframed) (rw is at some) in (b.0, rw is b.1)

    pub closing_moved : n ≡ 255 → Moved c room Number ((NID_PACKET, n) ∷ []) c (room - 8) Closed
    closing_moved is = number_moved (room - 8) Closed refl (closing is).1

    pub closing_here : n ≡ 255 → Becomes c Number NID_PACKET n More Closed
    closing_here is f k h (e1, e2, e3) = (e1, e2, rw ((closing is).0, is, e3) refl)

    -- 0 is a marker's
    zero_is : (n ≡ 255 → ⊥) → n ≡ 0
    zero_is other = unframed_is c room n unframed some other

    zero : (n ≡ 255 → ⊥) → (c ≡ Telegram) × Same (AfterNumber c room n) (MarkerLeft room)
    zero other = let is = zero_is other in let b = after_zero c room (rw is at unframed) (rw is at some) in (b.0, rw is b.1)

    pub zero_telegram : (n ≡ 255 → ⊥) → IsTrue (is_telegram c)
    zero_telegram other = rw (zero other).0 refl

    pub zero_moved : (n ≡ 255 → ⊥) → Moved c room Number ((NID_PACKET, n) ∷ []) c room Marker
    zero_moved other = number_moved room Marker refl (zero other).1

    pub zero_here : (n ≡ 255 → ⊥) → Becomes c Number NID_PACKET n More Marker
    zero_here other f k h (e1, e2, e3) = (e1, e2, rw (zero_is other, e3) refl)

-- ---- NID_VBCMK.

pub marker_moved : (c : Carrier) (room n : ℕ) (s : Stage) → IsTrue (is_telegram c) → Starts (MarkerLeft room) NID_VBCMK 0 n → Same (left_of c (room - 14) s) (PacketsIn c (room - 14)) → ahead c (room - 14) s ≡ room - 14 → Moved c room Marker ((NID_VBCMK, n) ∷ []) c (room - 14) s
marker_moved Telegram room n s t starts left bits =
    let step = marker_step room in
    let After = AfterMarker room in
    let (a, le, run) = after_marker room n (opens_number (MarkerLeft room) NID_VBCMK After step n starts) in
    let same = same_along (After n) (PacketsIn Telegram (room - 14)) (left_of Telegram (room - 14) s) run (same_back (left_of Telegram (room - 14) s) (PacketsIn Telegram (room - 14)) left) in
    moved_by Telegram room Marker NID_VBCMK n (room - 14) s (After n) (opens_beyond (MarkerLeft room) NID_VBCMK After step n) same (omega (arith, le, bits))
marker_moved (Message way) room n s t starts left bits = absurd cc

pub marker_room : (room n : ℕ) → Starts (MarkerLeft room) NID_VBCMK 0 n → 14 ≤ room
marker_room room n starts = (after_marker room n (opens_number (MarkerLeft room) NID_VBCMK (AfterMarker room) (marker_step room) n starts)).1

-- ---- Q_DIR.

length_room : (c : Carrier) (nid room : ℕ) (r : Reading) → LengthLeft c nid room r → frame_bits (way_of c) ≤ room
length_room c nid room r (l, q, e, (least, most, le, b)) = omega (arith, least, le)

-- if Q_DIR is sent, it comes before L_PACKET
sent_head : (way : Way) (dir : ℕ) → IsTrue (sends way dir) → head_bits way ≡ 10
sent_head ToTrain dir h = refl
sent_head ToTrack dir h = absurd cc

pub direction_moved : (c : Carrier) (nid room dir : ℕ) → Starts (DirectionLeft c nid room) Q_DIR 0 dir → Moved c room (Direction nid) ((Q_DIR, dir) ∷ []) c room (Length nid dir)
direction_moved c nid room dir starts =
    let step = direction_step c nid room in
    let After = AfterDirection c nid room in
    let some = opens_number (DirectionLeft c nid room) Q_DIR After step dir starts in
    let least = length_room c nid room some.0 some.1.1 in
    let turn = after_direction c nid room dir some in
    let head = sent_head (way_of c) dir turn.0 in
    moved_by c room (Direction nid) Q_DIR dir room (Length nid dir) (After dir) (opens_beyond (DirectionLeft c nid room) Q_DIR After step dir) turn.1 (omega (arith, least, head, (frame_between (way_of c)).0))

pub direction_sent : (c : Carrier) (nid room dir : ℕ) → Starts (DirectionLeft c nid room) Q_DIR 0 dir → IsTrue (sends (way_of c) dir)
direction_sent c nid room dir starts = (after_direction c nid room dir (opens_number (DirectionLeft c nid room) Q_DIR (AfterDirection c nid room) (direction_step c nid room) dir starts)).0

pub direction_here : (c : Carrier) (nid room dir : ℕ) → Starts (DirectionLeft c nid room) Q_DIR 0 dir → Becomes c (Direction nid) Q_DIR dir More (Length nid dir)
direction_here c nid room dir starts f k h (e1, e2, e3) =
    let d = sent_directed (way_of c) dir [] (direction_sent c nid room dir starts) in
    (e1, e2, rw (e3, d) refl)
