-- Further lemmas beside specs/laws/StageLaws.antt.
use Rattle.std.proofs.Common.{◌≡◌, ℕ, ◌+◌, ◌-◌, ◌≤◌, Bool, true, false, [], ◌∷◌, length, Some, None, refl, ap, subst, ◌∙◌, arith, inl, inr, append-nil}
use Rattle.std.specs.Prelude.{IsTrue, Option, ◌⊎◌}
use Rattle.std.proofs.lemmas.Bool.{cases_lt}
use Rattle.std.proofs.lemmas.List.Elements.{All-nil}
use Rattle.etcs_vars.specs.declared.var.Var.{Var}
use Rattle.etcs_vars.specs.declared.var.Var.TheVariants.{Q_DIR, L_PACKET, OTHER_DATA}
use Rattle.etcs_vars.specs.Reading.{Reading, spelled}
use Rattle.etcs_vars.proofs.Languages.{Same}
use Rattle.etcs_rows.specs.declared.frames.Carrier.{Carrier}
use Rattle.etcs_rows.specs.declared.frames.Carrier.TheVariants.{Message}
use Rattle.etcs_vars.proofs.Sent.{length-sent}
use Rattle.etcs_tables.specs.declared.row.Way.{Way}
use Rattle.etcs_tables.specs.declared.row.Way.TheVariants.{ToTrain, ToTrack}
use Rattle.etcs_tables.specs.Frames.{frame_bits, head_bits}
use Rattle.etcs_packets.specs.laws.PacketReadings.{frame_is}
use Rattle.etcs_sequence.specs.Contents.{Carries, PacketsIn, KeptIn, BodyIn, LengthLeft, AfterNumber, DirectionLeft}
use Rattle.etcs_sequence.specs.laws.RunSteps.{both_length, number_step}
use Rattle.etcs_sequence.specs.declared.stage.Stage.{Stage}
use Rattle.etcs_sequence.specs.Lefts.{next_of, left_of, ahead, is_stage, is_closed, Moved}
use Rattle.etcs_sequence.specs.laws.BitLaws.{bits_spelled}
use Rattle.etcs_sequence.specs.laws.LeftLaws.{left_begins}
use Rattle.etcs_sequence.specs.laws.StageLaws.{open_next}
use Rattle.etcs_sequence.specs.declared.stage.Stage.TheVariants as stage

pub closed_stage : (s : Stage) → is_closed s ≡ true → s ≡ stage.Closed
closed_stage stage.Number h = absurd cc
closed_stage stage.Marker h = absurd cc
closed_stage (stage.Direction nid) h = absurd cc
closed_stage (stage.Length nid dir) h = absurd cc
closed_stage (stage.Row nid dir row) h = absurd cc
closed_stage (stage.Kept nid dir left) h = absurd cc
closed_stage stage.Closed h = refl

-- ---- A message's packets take all of their room but for the padding.

kept_length : (bits : ℕ) (r : Reading) → KeptIn bits r → length (spelled r) ≡ bits
kept_length bits r (b, l, e) = ap (λ (t : Reading). length (spelled t)) e ∙ ap length (bits_spelled OTHER_DATA b refl) ∙ l

body_length : (way : Way) (nid bits : ℕ) (r : Reading) → BodyIn way nid bits r → length (spelled r) ≡ bits
body_length way nid bits r (inl (row, e, (reads, len))) = len
body_length way nid bits r (inr (k, b)) = kept_length bits r b

run_room : (way : Way) (room : ℕ) (r : Reading) → PacketsIn (Message way) room r → room ≤ length (spelled r) + 7
run_room way room r (vs, run) = run.fills.1

length_room : (way : Way) (nid room : ℕ) (r : Reading) → LengthLeft (Message way) nid room r → room ≤ length (spelled r) + head_bits way + 7
length_room way nid room r (l, rest, e, (least, most, le, (a, b, f, body, run))) =
    omega (arith, least, le, frame_is way, body_length way nid (l - frame_bits way) a body, run_room way (room - l) b run, ap (λ (t : Reading). length (spelled t)) e, length-sent L_PACKET l rest, ap (λ (t : Reading). length (spelled t)) f, both_length a b)

-- before L_PACKET are NID_PACKET and, if it is sent, Q_DIR
direction_room : (way : Way) (nid room : ℕ) (r : Reading) → DirectionLeft (Message way) nid room r → room ≤ length (spelled r) + 15
direction_room ToTrack nid room r (dir, rest, e, (a, h)) = absurd cc
direction_room ToTrain nid room r (dir, rest, e, (a, h)) = omega (arith, length_room ToTrain nid room rest h, ap (λ (t : Reading). length (spelled t)) e, length-sent Q_DIR dir rest)

pub message_ahead : (way : Way) (room : ℕ) (s : Stage) (r : Reading) → IsTrue (is_stage (Message way) room s) → is_closed s ≡ false → left_of (Message way) room s r → ahead (Message way) room s ≤ length (spelled r) + 7
message_ahead way room stage.Number r k o h = run_room way room r h
message_ahead way room stage.Marker r k o h = absurd cc
message_ahead way room (stage.Direction nid) r k o h = omega (arith, direction_room way nid room r h)
message_ahead way room (stage.Length nid dir) r k o h = omega (arith, length_room way nid room r h)
message_ahead way room (stage.Row nid dir row) r k o (a, b, e, (reads, len), run) =
    omega (arith, len, run_room way room b run, ap (λ (t : Reading). length (spelled t)) e, both_length a b)
message_ahead way room (stage.Kept nid dir left) r k o (a, b, e, body, run) =
    omega (arith, kept_length left a body, run_room way room b run, ap (λ (t : Reading). length (spelled t)) e, both_length a b)
message_ahead way room stage.Closed r k o h = absurd cc

-- once they are closed, padding is left
pub closed_room : (way : Way) (room : ℕ) (s : Stage) (p : Reading) (c' : Carrier) (room' : ℕ) (s' : Stage) → IsTrue (is_stage (Message way) room s) → is_closed s ≡ false → Moved (Message way) room s p c' room' s' → s' ≡ stage.Closed → room' ≤ 7
closed_room way room s p c' room' s' k o m e =
    let none : left_of c' room' s' [] = rw e refl in
    let is : ahead c' room' s' ≡ room' = rw e refl in
    let all : left_of (Message way) room s p = subst (left_of (Message way) room s) (append-nil p) (m.residual.from [] none) in
    let a = message_ahead way room s p k o all in
    let b = m.ahead_is in
    omega (arith, a, b, is)

-- and if they begin so
pub begun_room : (way : Way) (room : ℕ) (c' : Carrier) (room' : ℕ) (s' : Stage) → ahead c' room' s' ≡ room → Same (left_of c' room' s') (PacketsIn (Message way) room) → s' ≡ stage.Closed → room' ≤ 7
begun_room way room c' room' s' a same e =
    let none : left_of c' room' s' [] = rw e refl in
    let is : ahead c' room' s' ≡ room' = rw e refl in
    omega (arith, run_room way room [] ((same []).0 none), a, is)

-- if nothing may be left, the packets are closed
pub none_closed : (c : Carrier) (room : ℕ) (s : Stage) → IsTrue (is_stage c room s) → left_of c room s [] → is_closed s ≡ true
none_closed c room s k h = by_test (is_closed s) refl
  where
    some_next : (o : Option Var) → next_of s ≡ o → is_closed s ≡ false → ⊥
    some_next None e o = open_next c room s k o e
    some_next (Some x) e o = let b = left_begins c room s k x e [] h in absurd (let f : ◌≡◌ {A = Reading} [] ((x, b.0) ∷ b.1) = b.2 in cc)

    by_test : (b : Bool) → is_closed s ≡ b → is_closed s ≡ true
    by_test true e = e
    by_test false e = absurd (some_next (next_of s) refl e)

-- and in a message without room
pub begun_closed : (way : Way) (c : Carrier) (room : ℕ) (s : Stage) → IsTrue (is_stage c room s) → Same (left_of c room s) (PacketsIn (Message way) 0) → is_closed s ≡ true
begun_closed way c room s k same = none_closed c room s k ((same []).1 ([], record { carried = All-nil (Carries (Message way)); reading_is = refl; fills = (omega arith, omega arith) }))

-- what packets of a message fill
pub message_run : (way : Way) (room : ℕ) (r : Reading) → PacketsIn (Message way) room r → (room ≤ 7) ⊎ (frame_bits way ≤ room)
message_run way room r run =
    elim (cases_lt 7 room) [
      | inl lt ↦ (let (n, q, e, small, after) = (number_step (Message way) room lt).opens r run in inr (framed n q after))
      | inr le ↦ inl le
    ]
  where
    framed : (n : ℕ) (q : Reading) → AfterNumber (Message way) room n q → frame_bits way ≤ room
    framed n q (inl (same, is, le, e)) = absurd cc
    framed n q (inr (inl (same, is, m))) = absurd cc
    framed n q (inr (inr (is, (dir, q', e, a, (l, rest, f, (least, most, le, body)))))) = omega (arith, least, le)
