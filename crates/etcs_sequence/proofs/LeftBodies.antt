-- What is left after L_PACKET, after numbers of a row and after bits that are kept.
use Rattle.std.proofs.Common.{◌≡◌, ℕ, ◌+◌, ◌-◌, ◌/◌, ◌^◌, ◌<◌, ◌≤◌, Bool, true, false, ◌==◌, List, [], ◌∷◌, ◌++◌, length, None, Some, refl, sym, ap, subst, ◌∙◌, arith}
use Rattle.std.specs.Prelude.{IsTrue, if◌then◌else◌}
use Rattle.std.proofs.lemmas.List.{append-nil, map-append}
use Rattle.etcs_vars.specs.declared.var.Var.{Var}
use Rattle.etcs_vars.specs.declared.var.Var.TheVariants.{NID_PACKET, L_PACKET, OTHER_DATA}
use Rattle.etcs_vars.specs.Vars.{width}
use Rattle.etcs_vars.specs.Walking.{Residual}
use Rattle.etcs_vars.specs.Reading.{Sent, Reading, Then, spelled, numbers, kept}
use Rattle.etcs_vars.proofs.Languages.{Same, same_along, same_back, same_self, Then-same}
use Rattle.etcs_vars.proofs.Sent.{length-sent}
use Rattle.etcs_rows.specs.declared.frames.Carrier.{Carrier}
use Rattle.etcs_tables.specs.Layouts.{Layout, looks, ReadsIn}
use Rattle.etcs_rows.specs.Places.{first_variable, after_number}
use Rattle.etcs_rows.specs.Walks.{ReadTo}
use Rattle.etcs_rows.proofs.RestLemmas.{row_step}
use Rattle.etcs_rows.specs.Frames.{way_of}
use Rattle.etcs_tables.specs.Rows.{row_to}
use Rattle.etcs_tables.specs.Frames.{is_kept, frame_bits, head_bits, kept_limit, is_direction, directed}
use Rattle.etcs_tables.specs.declared.row.Way.{Way}
use Rattle.etcs_packets.specs.PacketValues as packets
use Rattle.etcs_packets.specs.PacketValues.{IsPacketTo}
use Rattle.etcs_packets.specs.PacketReadings.{in_frame, reading_to}
use Rattle.etcs_packets.specs.laws.PacketReadings.{length-kept, frame_is, directed-append, in_frame-append}
use Rattle.etcs_sequence.specs.Contents.{Carries, PacketsIn, BodyIn, KeptIn, BodyLeft, AfterLength, LengthLeft}
use Rattle.etcs_sequence.specs.laws.RunSteps.{framed_carried}
use Rattle.etcs_sequence.proofs.Turns.{residual_same, beyond_length, typed_body, kept_body}
use Rattle.etcs_sequence.proofs.Wholes.{kept_after, kept_ends, kept_append}
use Rattle.etcs_reader.specs.Rests.{Starts, Goes, BeginsWith}
use Rattle.etcs_reader.specs.laws.FieldLaws.{residual_none, residual_along}
use Rattle.etcs_rows.specs.declared.rest.RowRest.{RowRest}
use Rattle.etcs_sequence.specs.declared.stage.Stage.{Stage}
use Rattle.etcs_sequence.specs.declared.stage.Stage.TheVariants.{Number, Length, Row, Kept}
use Rattle.etcs_sequence.specs.Lefts.{left_of, ahead, RowHere, Moved}
use Rattle.etcs_rows.specs.laws.RestLaws.{row_begins_with, row_ended}
use Rattle.etcs_sequence.proofs.ThenLaws.{cut_first, then_after, then_second}
use Rattle.etcs_sequence.specs.laws.Framed.{typed_framed, row_short}
use Rattle.etcs_sequence.specs.laws.Others.{kept_fault, kept_framed}

-- ---- After L_PACKET.

length_after : (c : Carrier) (nid room l : ℕ) (q : Reading) → LengthLeft c nid room ((L_PACKET, l) ∷ q) → AfterLength c nid room l q
length_after c nid room l q (m, r, e, a) =
    let pair : ◌≡◌ {A = Sent} (L_PACKET, m) (L_PACKET, l) = cc in
    let number : m ≡ l = ap (λ (u : Sent). u.1) pair in
    let rest : r ≡ q = cc in
    rw (number, rest) at a

-- something continues after this length
pub some_after : (c : Carrier) (nid room l : ℕ) → Starts (LengthLeft c nid room) L_PACKET 0 l → (r : Reading) × AfterLength c nid room l r
some_after c nid room l (n, r, h, e) =
    let whole : n ≡ l = (let one : n / 2 ^ 0 ≡ n = omega arith in sym one ∙ e) in
    (r, rw whole at (length_after c nid room n r h))

-- a body of known readings is left
body_left : (c : Carrier) (nid room l : ℕ) (B : Reading → Type 0) → ((r : Reading) × AfterLength c nid room l r) → Same (BodyIn (way_of c) nid (l - frame_bits (way_of c))) B → Residual (LengthLeft c nid room) ((L_PACKET, l) ∷ []) (Then B (PacketsIn c (room - l)))
body_left c nid room l B some same =
    let t = beyond_length c nid room l some in
    let run = PacketsIn c (room - l) in
    let here : Residual (LengthLeft c nid room) ((L_PACKET, l) ∷ []) (AfterLength c nid room l) = record { to = λ q h. length_after c nid room l q h; from = λ q a. (l, q, refl, a) } in
    residual_same (LengthLeft c nid room) ((L_PACKET, l) ∷ []) (AfterLength c nid room l) (Then B run) here
    (same_along (AfterLength c nid room l) (BodyLeft c nid (l - frame_bits (way_of c)) (room - l)) (Then B run) t.3 (Then-same (BodyIn (way_of c) nid (l - frame_bits (way_of c))) run B run same (same_self run)))

-- its bits, with those that are left of the room
frame_ahead : (way : Way) (room l : ℕ) → frame_bits way ≤ l → l ≤ room → room - head_bits way ≡ length (spelled ((L_PACKET, l) ∷ [])) + (l - frame_bits way + (room - l))
frame_ahead way room l least le = omega (arith, frame_is way, length-sent L_PACKET l [], least, le)

-- bits are kept
pub kept_begun : (c : Carrier) (nid dir room l : ℕ) → Starts (LengthLeft c nid room) L_PACKET 0 l → IsTrue (is_kept (way_of c) nid) → Moved c room (Length nid dir) ((L_PACKET, l) ∷ []) c (room - l) (Kept nid dir (l - frame_bits (way_of c)))
kept_begun c nid dir room l goes k =
    let bits = l - frame_bits (way_of c) in
    let some = some_after c nid room l goes in
    let t = beyond_length c nid room l some in
    record { same = refl; residual = body_left c nid room l (KeptIn bits) some (kept_body (way_of c) nid bits k); ahead_is = frame_ahead (way_of c) room l t.0 t.2 }

-- a row is read
pub row_begun : (c : Carrier) (nid dir room l : ℕ) (row : Layout) (rest : RowRest) → Starts (LengthLeft c nid room) L_PACKET 0 l → row_to (way_of c) nid ≡ Some row → rest.place ≡ row → rest.len ≡ l - frame_bits (way_of c) → Moved c room (Length nid dir) ((L_PACKET, l) ∷ []) c (room - l) (Row nid dir rest)
row_begun c nid dir room l row rest goes typed place len =
    let bits = l - frame_bits (way_of c) in
    let some = some_after c nid room l goes in
    let t = beyond_length c nid room l some in
    let same : Same (BodyIn (way_of c) nid bits) (ReadsIn rest.place rest.len) = rw (place, len) (typed_body (way_of c) nid bits row typed) in
    record { same = refl; residual = body_left c nid room l (ReadsIn rest.place rest.len) some same; ahead_is = rw len (frame_ahead (way_of c) room l t.0 t.2) }

-- how long the packet is
pub length_whole : (c : Carrier) (nid room l : ℕ) → Starts (LengthLeft c nid room) L_PACKET 0 l → (frame_bits (way_of c) ≤ l) × (l < 2 ^ 13) × (l ≤ room)
length_whole c nid room l goes = let t = beyond_length c nid room l (some_after c nid room l goes) in (t.0, t.1, t.2)

-- ---- Bits that are kept.

pub bits_after : (c : Carrier) (room nid dir left : ℕ) (t : List Bool) (count : ℕ) → length t ≡ count → count ≤ left → Moved c room (Kept nid dir left) (kept OTHER_DATA t) c room (Kept nid dir (left - count))
bits_after c room nid dir left t count is le = record {
  same = refl;
  residual = rw is at (kept_after left t (PacketsIn c room) (omega (arith, is, le)));
  ahead_is = omega (arith, length-kept t, is, le);
}

-- all of them are there
pub bits_whole : (c : Carrier) (room : ℕ) (s : Stage) (p : Reading) (c' : Carrier) (room' nid dir left : ℕ) (s' : Stage) → Moved c room s p c' room' (Kept nid dir left) → left ≡ 0 → Same (left_of c' room' s') (PacketsIn c' room') → ahead c' room' s' ≡ room' → Moved c room s p c' room' s'
bits_whole c room s p c' room' nid dir left s' m none same e =
    let run = PacketsIn c' room' in
    let residual : Residual (left_of c room s) p (Then (KeptIn 0) run) = rw none at m.residual in
    let back = same_along (Then (KeptIn 0) run) run (left_of c' room' s') (kept_ends run) (same_back (left_of c' room' s') run same) in
    record { same = m.same; residual = residual_same (left_of c room s) p (Then (KeptIn 0) run) (left_of c' room' s') residual back; ahead_is = (let a = m.ahead_is in omega (arith, a, none, e)) }

bits_begin : (left : ℕ) → 0 < left → BeginsWith (KeptIn left) OTHER_DATA
bits_begin left pos r ([], l, e) = absurd (omega (arith, l, pos))
bits_begin left pos r (b ∷ bs, l, e) = (if b then 1 else 0, kept OTHER_DATA bs, e)

bit_sent : (m : ℕ) (u : Reading) (bs : List Bool) → (OTHER_DATA, m) ∷ u ≡ kept OTHER_DATA bs → kept OTHER_DATA ((m == 1) ∷ []) ≡ (OTHER_DATA, m) ∷ []
bit_sent m u [] e = absurd cc
bit_sent m u (true ∷ bs) e =
    let pair : ◌≡◌ {A = Sent} (OTHER_DATA, m) (OTHER_DATA, 1) = cc in
    let number : m ≡ 1 = ap (λ (s : Sent). s.1) pair in
    rw number refl
bit_sent m u (false ∷ bs) e =
    let pair : ◌≡◌ {A = Sent} (OTHER_DATA, m) (OTHER_DATA, 0) = cc in
    let number : m ≡ 0 = ap (λ (s : Sent). s.1) pair in
    rw number refl

-- a number that continues is a bit
pub kept_bit : (left n : ℕ) (Q : Reading → Type 0) → 0 < left → Starts (Then (KeptIn left) Q) OTHER_DATA 0 n → kept OTHER_DATA ((n == 1) ∷ []) ≡ (OTHER_DATA, n) ∷ []
kept_bit left n Q pos (m, r, l, e) =
    let whole : m ≡ n = (let one : m / 2 ^ 0 ≡ m = omega arith in sym one ∙ e) in
    let (u, v, f, (bs, len, is), h) = cut_first (KeptIn left) Q OTHER_DATA (bits_begin left pos) m r l in
    rw whole at (bit_sent m u bs is)

-- the frame with more of them
pub kept_more : (way : Way) (nid dir bits : ℕ) (k t : List Bool) (h : Reading) → h ≡ in_frame way nid dir bits (kept OTHER_DATA k) → h ++ kept OTHER_DATA t ≡ in_frame way nid dir bits (kept OTHER_DATA (k ++ t))
kept_more way nid dir bits k t h e =
    ap (λ (q : Reading). q ++ kept OTHER_DATA t) e
    ∙ in_frame-append way nid dir bits (kept OTHER_DATA k) (kept OTHER_DATA t)
    ∙ ap (λ (q : Reading). in_frame way nid dir bits q) (sym (kept_append k t))

-- they are those of a whole packet
pub kept_whole : (c : Carrier) (nid dir : ℕ) (k : List Bool) (h : Reading) → IsTrue (is_kept (way_of c) nid) → IsTrue (is_direction (way_of c) dir) → length k ≤ kept_limit (way_of c) → h ≡ in_frame (way_of c) nid dir (length k) (kept OTHER_DATA k)
    → Carries c (packets.kept nid dir k) × (h ≡ reading_to (way_of c) (packets.kept nid dir k))
kept_whole c nid dir k h other direction le e = (framed_carried c (packets.kept nid dir k) (kept_fault (way_of c) nid dir (length k) other direction le) (kept_framed (way_of c) nid other), e)

-- ---- A row.

-- what continues in it and in what follows it continues in the row
pub row_starts : (c : Carrier) (room : ℕ) (row : RowRest) (x : Var) (n : ℕ) → first_variable row.place ≡ Some x → Starts (Then (ReadsIn row.place row.len) (PacketsIn c room)) x 0 n → Starts (ReadsIn row.place row.len) x 0 n
row_starts c room row x n next (m, r, l, e) =
    let (u, v, f, hu, hv) = cut_first (ReadsIn row.place row.len) (PacketsIn c room) x (row_begins_with row.place row.len x next) m r l in
    (m, u, hu, e)

-- something is left after its number
pub row_goes : (c : Carrier) (room : ℕ) (row new : RowRest) (x : Var) (n : ℕ) → first_variable row.place ≡ Some x → Starts (Then (ReadsIn row.place row.len) (PacketsIn c room)) x 0 n → Residual (ReadsIn row.place row.len) ((x, n) ∷ []) (ReadsIn new.place new.len) → Goes (ReadsIn new.place new.len)
row_goes c room row new x n next goes d =
    let (m, r, l, e) = row_starts c room row x n next goes in
    let whole : m ≡ n = (let one : m / 2 ^ 0 ≡ m = omega arith in sym one ∙ e) in
    (r, d.to r (rw whole at l))

-- what follows it stays, after variables of it
pub then_run : (row : Layout) (len : ℕ) (p : Reading) (left : Layout) (bits : ℕ) (Q : Reading → Type 0) → IsTrue (looks None row) → ReadTo row len p left bits → Residual (Then (ReadsIn row len) Q) p (Then (ReadsIn left bits) Q)
then_run row len [] left bits Q look (same, much) = rw (same, much) (residual_none (Then (ReadsIn row len) Q))
then_run row len ((v, n) ∷ p) left bits Q look (mid, next, after, wide, to) =
    let more = len - width v in
    let step = row_step row mid v len n next look after wide in
    residual_along (Then (ReadsIn row len) Q) ((v, n) ∷ []) (Then (ReadsIn mid more) Q) p (Then (ReadsIn left bits) Q)
    (then_after (ReadsIn row len) Q (ReadsIn mid more) v (row_begins_with row len v next) n step.0)
    (then_run mid more p left bits Q step.1 to)

run_bits : (row : Layout) (len : ℕ) (p : Reading) (left : Layout) (bits : ℕ) → ReadTo row len p left bits → len ≡ length (spelled p) + bits
run_bits row len [] left bits (same, much) = omega (arith, much)
run_bits row len ((v, n) ∷ p) left bits (mid, next, after, wide, to) = omega (arith, run_bits mid (len - width v) p left bits to, wide, length-sent v n p)

-- after variables of it
pub row_run : (c : Carrier) (room nid dir : ℕ) (row new : RowRest) (p : Reading) → ReadTo row.place row.len p new.place new.len → Moved c room (Row nid dir row) p c room (Row nid dir new)
row_run c room nid dir row new p to = record {
  same = refl;
  residual = then_run row.place row.len p new.place new.len (PacketsIn c room) row.looks_well to;
  ahead_is = (let b = run_bits row.place row.len p new.place new.len to in omega (arith, b));
}

-- after one
pub row_passed : (c : Carrier) (room nid dir : ℕ) (row new : RowRest) (x : Var) (n : ℕ) → first_variable row.place ≡ Some x → row.len ≡ width x + new.len → after_number row.place n ≡ Some new.place → Moved c room (Row nid dir row) ((x, n) ∷ []) c room (Row nid dir new)
row_passed c room nid dir row new x n next len after = row_run c room nid dir row new ((x, n) ∷ []) (new.place, next, after, omega (arith, len), (refl, omega (arith, len)))

-- nothing is left of it
row_over : (row : Layout) (len : ℕ) → IsTrue (looks None row) → first_variable row ≡ None → Goes (ReadsIn row len) → ReadsIn row len [] × (len ≡ 0)
row_over row len look next (r, l) =
    let none : r ≡ [] = row_ended row len look next r l in
    let l' : ReadsIn row len [] = rw none at l in
    (l', sym l'.1)

pub row_whole : (c : Carrier) (room : ℕ) (s : Stage) (p : Reading) (c' : Carrier) (room' nid dir : ℕ) (row : RowRest) (s' : Stage) → Moved c room s p c' room' (Row nid dir row) → first_variable row.place ≡ None → Goes (ReadsIn row.place row.len) → Same (left_of c' room' s') (PacketsIn c' room') → ahead c' room' s' ≡ room' → Moved c room s p c' room' s'
row_whole c room s p c' room' nid dir row s' m next goes same e =
    let run = PacketsIn c' room' in
    let P = ReadsIn row.place row.len in
    let over = row_over row.place row.len row.looks_well next goes in
    let back = same_along (Then P run) run (left_of c' room' s') (then_second P run (row_ended row.place row.len row.looks_well next) goes) (same_back (left_of c' room' s') run same) in
    record { same = m.same; residual = residual_same (left_of c room s) p (Then P run) (left_of c' room' s') m.residual back; ahead_is = (let a = m.ahead_is in omega (arith, a, over.1, e)) }

-- ---- The variables of a row so far.

-- the frame, once its length is known
pub frame_begun : (way : Way) (nid dir l : ℕ) (h : Reading) → frame_bits way ≤ l → h ≡ (NID_PACKET, nid) ∷ directed way dir [] → h ++ (L_PACKET, l) ∷ [] ≡ in_frame way nid dir (l - frame_bits way) []
frame_begun way nid dir l h least e =
    let bits : frame_bits way + (l - frame_bits way) ≡ l = omega (arith, least) in
    ap (λ (q : Reading). q ++ (L_PACKET, l) ∷ []) e
    ∙ ap (λ (q : Reading). (NID_PACKET, nid) ∷ q) (directed-append way dir [] ((L_PACKET, l) ∷ []))
    ∙ ap (λ (k : ℕ). (NID_PACKET, nid) ∷ directed way dir ((L_PACKET, k) ∷ [])) (sym bits)

pub here_begun : (c : Carrier) (room nid dir l : ℕ) (row : Layout) (rest : RowRest) (h : Reading) → Starts (LengthLeft c nid room) L_PACKET 0 l → row_to (way_of c) nid ≡ Some row → rest.place ≡ row → rest.len ≡ l - frame_bits (way_of c) → h ≡ (NID_PACKET, nid) ∷ directed (way_of c) dir [] → RowHere (way_of c) nid dir rest.place rest.len [] (h ++ (L_PACKET, l) ∷ [])
here_begun c room nid dir l row rest h goes typed place len e =
    let way = way_of c in
    let t = length_whole c nid room l goes in
    record {
      row = row;
      total = l - frame_bits way;
      read = [];
      typed = typed;
      looks_well = subst (λ (x : Layout). IsTrue (looks None x)) place rest.looks_well;
      short = omega (arith, t.1);
      residual = rw (place, len) (residual_none (ReadsIn row (l - frame_bits way)));
      here = frame_begun way nid dir l h t.0 e;
      numbers_are = refl;
    }

pub here_more : (way : Way) (nid dir : ℕ) (left : Layout) (len : ℕ) (new : Layout) (len' : ℕ) (f : List ℕ) (h p : Reading) → RowHere way nid dir left len f h → Residual (ReadsIn left len) p (ReadsIn new len') → RowHere way nid dir new len' (f ++ numbers p) (h ++ p)
here_more way nid dir left len new len' f h p k d = record {
  row = k.row;
  total = k.total;
  read = k.read ++ p;
  typed = k.typed;
  looks_well = k.looks_well;
  short = k.short;
  residual = residual_along (ReadsIn k.row k.total) k.read (ReadsIn left len) p (ReadsIn new len') k.residual d;
  here = ap (λ (t : Reading). t ++ p) k.here ∙ in_frame-append way nid dir k.total k.read p;
  numbers_are = map-append (λ (s : Sent). s.1) k.read p ∙ ap (λ (t : List ℕ). t ++ numbers p) k.numbers_are;
}

-- they are those of a whole packet
pub here_whole : (c : Carrier) (nid dir : ℕ) (row : RowRest) (f : List ℕ) (h : Reading) → IsTrue (is_direction (way_of c) dir) → first_variable row.place ≡ None → Goes (ReadsIn row.place row.len) → RowHere (way_of c) nid dir row.place row.len f h
    → (r : Reading) × (Carries c (packets.typed nid dir r) × (numbers r ≡ f) × (h ≡ reading_to (way_of c) (packets.typed nid dir r)))
here_whole c nid dir row f h direction next goes k =
    let way = way_of c in
    let over = row_over row.place row.len row.looks_well next goes in
    let reads : ReadsIn k.row k.total k.read = rw append-nil at (k.residual.from [] over.0) in
    let v = packets.typed nid dir k.read in
    let short = row_short way nid k.row k.read k.typed reads.0 (let s = k.short in let l = reads.1 in omega (arith, s, l)) in
    let is : IsPacketTo way v = (k.row, k.typed, direction, reads.0, short) in
    (k.read, (framed_carried c v is (typed_framed way nid k.row k.typed), k.numbers_are, k.here ∙ ap (λ (b : ℕ). in_frame way nid dir b k.read) (sym reads.1)))

-- ---- Whole packets.

pub reading_passed : (c : Carrier) (room left : ℕ) (s' : Stage) (p : Reading) → Residual (PacketsIn c room) p (PacketsIn c left) → length (spelled p) + left ≡ room → Same (left_of c left s') (PacketsIn c left) → ahead c left s' ≡ left → Moved c room Number p c left s'
reading_passed c room left s' p beyond long same e = record {
  same = refl;
  residual = residual_same (PacketsIn c room) p (PacketsIn c left) (left_of c left s') beyond (same_back (left_of c left s') (PacketsIn c left) same);
  ahead_is = omega (arith, long, e);
}
