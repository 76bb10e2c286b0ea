-- A run of packets, variable by variable: which comes next, and what is left after its number.
use Rattle.std.proofs.Common.{◌≡◌, ℕ, ◌+◌, ◌-◌, ◌^◌, ◌<◌, ◌≤◌, List, [], ◌∷◌, ◌++◌, length, refl, sym, ap, ◌∙◌, subst, arith, append_assoc, inl, inr}
use Rattle.std.specs.Prelude.{IsTrue}
use Rattle.std.proofs.lemmas.List.{length-append}
use Rattle.std.proofs.lemmas.List.Elements.{All-nil, All-cons, All-head, All-tail}
use Rattle.etcs_vars.specs.declared.var.Var.TheVariants.{NID_PACKET, NID_VBCMK, Q_DIR, L_PACKET, OTHER_DATA}
use Rattle.etcs_vars.specs.Reading.{Reading, spelled, kept}
use Rattle.etcs_vars.proofs.Prefixes.{admits_parts}
use Rattle.etcs_vars.specs.laws.Spellings.{spelled-append}
use Rattle.etcs_vars.proofs.Stepping.{Opens}
use Rattle.etcs_vars.proofs.Sent.{length-sent}
use Rattle.etcs_tables.specs.Frames.{frame_bits, kept_limit, is_framed, is_direction, directed}
use Rattle.etcs_rows.specs.declared.frames.Carrier.{Carrier}
use Rattle.etcs_rows.specs.declared.frames.Carrier.TheVariants.{Telegram, Message}
use Rattle.etcs_rows.specs.Frames.{way_of}
use Rattle.etcs_packets.specs.PacketValues as packets
use Rattle.etcs_packets.specs.PacketValues.{PacketValue, nid_of, IsPacketTo}
use Rattle.etcs_packets.specs.PacketReadings.{in_frame, reading_to, readings_to}
use Rattle.etcs_packets.specs.laws.PacketReadings.{length-kept, in_frame-append, length-in_frame}
use Rattle.etcs_sequence.specs.Contents.{closing, Fills, Carries, PacketsIn, ReadsPackets, BodyIn, AfterLength, LengthLeft, AfterDirection, DirectionLeft, AfterMarker, MarkerLeft, AfterNumber, IsOpen}
use Rattle.etcs_sequence.specs.laws.Others.{kept_parts, kept_fault, kept_framed}
use Rattle.etcs_sequence.specs.laws.Framed.{typed_framed, framed_small, framed_unmarked, marker_marked, frame_between, row_limit, row_short, sent_small}

-- ---- Lengths.

marker_length : (n : ℕ) (r : Reading) → length (spelled ((NID_PACKET, 0) ∷ (NID_VBCMK, n) ∷ r)) ≡ 14 + length (spelled r)
marker_length n r = omega (arith, length-sent NID_PACKET 0 ((NID_VBCMK, n) ∷ r), length-sent NID_VBCMK n r)

pub both_length : (a b : Reading) → length (spelled (a ++ b)) ≡ length (spelled a) + length (spelled b)
both_length a b = ap length (spelled-append a b) ∙ length-append (spelled a) (spelled b)

-- a packet's bits leave as much of the room after it
pub fills_after : (c : Carrier) (room l m : ℕ) → Fills c room (l + m) → (l ≤ room) × Fills c (room - l) m
fills_after Telegram room l m h = (omega (arith, h), omega (arith, h))
fills_after (Message way) room l m h = (omega (arith, h.0), (omega (arith, h.0), omega (arith, h.1)))

pub fills_before : (c : Carrier) (room l m : ℕ) → l ≤ room → Fills c (room - l) m → Fills c room (l + m)
fills_before Telegram room l m le h = omega (arith, le, h)
fills_before (Message way) room l m le h = (omega (arith, le, h.0), omega (arith, le, h.1))

-- ---- NID_PACKET.

-- one packet before a run
pub in_front : (c : Carrier) (room l : ℕ) (v : PacketValue) (q : Reading) → Carries c v → length (spelled (reading_to (way_of c) v)) ≡ l → l ≤ room → PacketsIn c (room - l) q → PacketsIn c room (reading_to (way_of c) v ++ q)
in_front c room l v q carried len le (vs, run) = (
  v ∷ vs,
  record {
    carried = All-cons (Carries c) v vs carried run.carried;
    reading_is = ap (λ (t : Reading). reading_to (way_of c) v ++ t) run.reading_is ∙ sym (append_assoc (reading_to (way_of c) v) (readings_to (way_of c) vs) (closing c));
    fills = (let total : length (spelled (reading_to (way_of c) v ++ q)) ≡ l + length (spelled q) = both_length (reading_to (way_of c) v) q ∙ ap (λ (k : ℕ). k + length (spelled q)) len in rw total (fills_before c room l (length (spelled q)) le run.fills));
  },
)

-- what is after the first packet of a run
pub beyond : (c : Carrier) (room l : ℕ) (v : PacketValue) (vs : List PacketValue) (r : Reading) → ReadsPackets c room (v ∷ vs) r → length (spelled (reading_to (way_of c) v)) ≡ l → (q : Reading) × (r ≡ reading_to (way_of c) v ++ q) × (l ≤ room) × ReadsPackets c (room - l) vs q
beyond c room l v vs r run len =
    let q = readings_to (way_of c) vs ++ closing c in
    let e : r ≡ reading_to (way_of c) v ++ q = run.reading_is ∙ append_assoc (reading_to (way_of c) v) (readings_to (way_of c) vs) (closing c) in
    let total : length (spelled r) ≡ l + length (spelled q) = ap (λ (t : Reading). length (spelled t)) e ∙ both_length (reading_to (way_of c) v) q ∙ ap (λ (k : ℕ). k + length (spelled q)) len in
    let f = fills_after c room l (length (spelled q)) (rw total at run.fills) in
    (q, e, f.0, record { carried = All-tail (Carries c) v vs run.carried; reading_is = refl; fills = f.1 })

pub carried_packet : (c : Carrier) (v : PacketValue) → Carries c v → IsPacketTo (way_of c) v
carried_packet Telegram v h = h
carried_packet (Message way) v h = h.0

pub framed_carried : (c : Carrier) (v : PacketValue) → IsPacketTo (way_of c) v → IsTrue (is_framed (way_of c) (nid_of v)) → Carries c v
framed_carried Telegram v h f = h
framed_carried (Message way) v h f = (h, framed_unmarked way (nid_of v) f)

-- a typed packet, or one that is kept, before a run, is a frame and what is after it
framed_opens : (c : Carrier) (room nid dir bits : ℕ) (body r q : Reading) → IsTrue (is_framed (way_of c) nid) → IsTrue (is_direction (way_of c) dir) → bits ≤ kept_limit (way_of c) → BodyIn (way_of c) nid bits body → frame_bits (way_of c) + bits ≤ room → PacketsIn c (room - (frame_bits (way_of c) + bits)) q → r ≡ in_frame (way_of c) nid dir bits body ++ q
    → (n : ℕ) × (r' : Reading) × (r ≡ (NID_PACKET, n) ∷ r') × (n < 2 ^ 8) × AfterNumber c room n r'
framed_opens c room nid dir bits body r q framed a short b le run e =
    let way = way_of c in
    let n = frame_bits way in
    let less : n + bits - n ≡ bits = omega arith in
    let beyond : Reading = (L_PACKET, n + bits) ∷ (body ++ q) in
    let after : AfterLength c nid room (n + bits) (body ++ q) = (omega arith, omega (arith, short, (frame_between way).1), le, (body, q, refl, rw less b, run)) in
    (nid, directed way dir beyond, e ∙ in_frame-append way nid dir bits body q, framed_small way nid framed, inr (inr (framed, (dir, beyond, refl, a, (n + bits, body ++ q, refl, after)))))

number_opens : (c : Carrier) (room : ℕ) (vs : List PacketValue) (r : Reading) → IsOpen c room → ReadsPackets c room vs r → (n : ℕ) × (r' : Reading) × (r ≡ (NID_PACKET, n) ∷ r') × (n < 2 ^ 8) × AfterNumber c room n r'
number_opens Telegram room [] r more run =
    let len : length (spelled r) ≡ 8 = ap (λ (t : Reading). length (spelled t)) run.reading_is ∙ length-sent NID_PACKET 255 [] in
    (255, [], run.reading_is, omega arith, inl (refl, refl, omega (arith, len, run.fills), refl))
number_opens (Message way) room [] r more run =
    let len : length (spelled r) ≡ 0 = ap (λ (t : Reading). length (spelled t)) run.reading_is in
    absurd (omega (arith, len, run.fills.1, more))
number_opens Telegram room (packets.marker n ∷ vs) r more run =
    let b = beyond Telegram room 14 (packets.marker n) vs r run (marker_length n []) in
    (0, (NID_VBCMK, n) ∷ b.0, b.1, omega arith, inr (inl (refl, refl, (n, b.0, refl, (All-head (Carries Telegram) (packets.marker n) vs run.carried, b.2, (vs, b.3))))))
number_opens (Message way) room (packets.marker n ∷ vs) r more run = let first = All-head (Carries (Message way)) (packets.marker n) vs run.carried in absurd (marker_marked way n first.0 first.1)
number_opens c room (packets.typed nid dir body ∷ vs) r more run =
    let way = way_of c in
    let v = packets.typed nid dir body in
    let bits = length (spelled body) in
    let (row, e, a, reads, short) = carried_packet c v (All-head (Carries c) v vs run.carried) in
    let b = beyond c room (frame_bits way + bits) v vs r run (length-in_frame way nid dir bits body) in
    framed_opens c room nid dir bits body r b.0 (typed_framed way nid row e) a (omega (arith, short, row_limit way)) (inl (row, e, (reads, refl))) b.2 (vs, b.3) b.1
number_opens c room (packets.kept nid dir bs ∷ vs) r more run =
    let way = way_of c in
    let v = packets.kept nid dir bs in
    let bits = length bs in
    let k = kept_parts way nid dir bits (carried_packet c v (All-head (Carries c) v vs run.carried)) in
    let len = length-in_frame way nid dir bits (kept OTHER_DATA bs) ∙ ap (λ (j : ℕ). frame_bits way + j) (length-kept bs) in
    let b = beyond c room (frame_bits way + bits) v vs r run len in
    framed_opens c room nid dir bits (kept OTHER_DATA bs) r b.0 (kept_framed way nid k.0) k.1 k.2 (inr (k.0, (bs, refl, refl))) b.2 (vs, b.3) b.1

-- a frame and its body are a packet
framed_closes : (c : Carrier) (room nid dir bits : ℕ) (body q : Reading) → IsTrue (is_framed (way_of c) nid) → IsTrue (is_direction (way_of c) dir) → bits ≤ kept_limit (way_of c) → BodyIn (way_of c) nid bits body → frame_bits (way_of c) + bits ≤ room → PacketsIn c (room - (frame_bits (way_of c) + bits)) q → PacketsIn c room (in_frame (way_of c) nid dir bits body ++ q)
framed_closes c room nid dir bits body q framed a short (inl (row, e, (reads, l))) le run =
    let way = way_of c in
    let v = packets.typed nid dir body in
    let is : IsPacketTo way v = (row, e, a, reads, row_short way nid row body e reads (omega (arith, l, short))) in
    let len : length (spelled (reading_to way v)) ≡ frame_bits way + bits = length-in_frame way nid dir (length (spelled body)) body ∙ ap (λ (k : ℕ). frame_bits way + k) l in
    let whole = in_front c room (frame_bits way + bits) v q (framed_carried c v is framed) len le run in
    subst (λ (k : ℕ). PacketsIn c room (in_frame way nid dir k body ++ q)) l whole
framed_closes c room nid dir bits body q framed a short (inr (k, (bs, l, e))) le run =
    let way = way_of c in
    let v = packets.kept nid dir bs in
    let is : IsPacketTo way v = kept_fault way nid dir (length bs) k a (omega (arith, l, short)) in
    let len : length (spelled (reading_to way v)) ≡ frame_bits way + bits = length-in_frame way nid dir (length bs) (kept OTHER_DATA bs) ∙ ap (λ (k : ℕ). frame_bits way + k) (length-kept bs ∙ l) in
    let whole = in_front c room (frame_bits way + bits) v q (framed_carried c v is framed) len le run in
    let body-is : PacketsIn c room (in_frame way nid dir (length bs) body ++ q) = rw e whole in
    subst (λ (k : ℕ). PacketsIn c room (in_frame way nid dir k body ++ q)) l body-is

number_closes : (c : Carrier) (room n : ℕ) (r : Reading) → AfterNumber c room n r → PacketsIn c room ((NID_PACKET, n) ∷ r)
number_closes c room n r (inl (same, is, le, e)) =
    let closed : PacketsIn Telegram room ((NID_PACKET, 255) ∷ []) = ([], record { carried = All-nil (Carries Telegram); reading_is = refl; fills = omega (arith, le, length-sent NID_PACKET 255 []) }) in
    rw (same, is, e) closed
number_closes c room n r (inr (inl (same, is, (m, q, e, (a, le, run))))) =
    let whole : PacketsIn Telegram room ((NID_PACKET, 0) ∷ (NID_VBCMK, m) ∷ q) = in_front Telegram room 14 (packets.marker m) q a (marker_length m []) le run in
    rw (same, is, e) whole
number_closes c room n r (inr (inr (framed, (dir, r1, e1, a, (l, r2, e2, (least, most, le, (body, q, e3, b, run))))))) =
    let way = way_of c in
    let bits = l - frame_bits way in
    let whole : frame_bits way + bits ≡ l = omega (arith, least) in
    let f = framed_closes c room n dir bits body q framed a (omega (arith, least, most)) b (omega (arith, least, le)) (rw whole run) in
    let g : PacketsIn c room (in_frame way n dir bits (body ++ q)) = subst (PacketsIn c room) (in_frame-append way n dir bits body q) f in
    let h : PacketsIn c room ((NID_PACKET, n) ∷ directed way dir ((L_PACKET, l) ∷ (body ++ q))) = subst (λ (k : ℕ). PacketsIn c room ((NID_PACKET, n) ∷ directed way dir ((L_PACKET, k) ∷ (body ++ q)))) whole g in
    rw (e1, e2, e3) h

pub number_step : (c : Carrier) (room : ℕ) → IsOpen c room → Opens (PacketsIn c room) NID_PACKET (AfterNumber c room)
number_step c room more = record { opens = λ r (vs, run). number_opens c room vs r more run; closes = λ n r a. number_closes c room n r a }

-- ---- The variables after it.

pub marker_step : (room : ℕ) → Opens (MarkerLeft room) NID_VBCMK (AfterMarker room)
marker_step room = record {
  opens = λ r (n, q, e, a). (n, q, e, (admits_parts NID_VBCMK n a.0).1, a);
  closes = λ n r a. (n, r, refl, a);
}

pub direction_step : (c : Carrier) (nid room : ℕ) → Opens (DirectionLeft c nid room) Q_DIR (AfterDirection c nid room)
direction_step c nid room = record {
  opens = λ r (n, q, e, a). (n, q, e, sent_small (way_of c) n a.0, a);
  closes = λ n r a. (n, r, refl, a);
}

pub length_step : (c : Carrier) (nid room : ℕ) → Opens (LengthLeft c nid room) L_PACKET (AfterLength c nid room)
length_step c nid room = record {
  opens = λ r (l, q, e, a). (l, q, e, a.1, a);
  closes = λ l r a. (l, r, refl, a);
}
