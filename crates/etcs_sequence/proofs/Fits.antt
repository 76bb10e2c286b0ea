-- Which numbers and lengths of packets some run continues with: those that fit.
use Rattle.std.proofs.Common.{◌≡◌, ℕ, ◌-◌, ◌≤◌, Bool, true, false, ◌||◌, List, [], ◌∷◌, ◌++◌, length, replicate, refl, sym, ap, ◌∙◌, subst, arith, inl, inr}
use Rattle.std.specs.Prelude.{IsTrue, nat_le, ◌⊎◌}
use Rattle.std.proofs.lemmas.Bool.{leb-true, le-leb}
use Rattle.std.proofs.lemmas.List.{length-replicate}
use Rattle.std.proofs.lemmas.List.Elements.{All-nil, All-head}
use Rattle.etcs_vars.specs.declared.var.Var.TheVariants.{NID_PACKET, NID_VBCMK, L_PACKET, OTHER_DATA}
use Rattle.etcs_vars.specs.Reading.{Reading, spelled, numbers, kept}
use Rattle.etcs_vars.proofs.Sent.{length-sent}
use Rattle.etcs_tables.specs.declared.row.Way.TheVariants.{ToTrain}
use Rattle.etcs_rows.specs.declared.frames.Carrier.{Carrier}
use Rattle.etcs_rows.specs.declared.frames.Carrier.TheVariants.{Telegram, Message}
use Rattle.etcs_tables.specs.Layouts.{Layout, Reads}
use Rattle.etcs_tables.specs.declared.row.Way.{Way}
use Rattle.etcs_tables.specs.Frames.{frame_bits, is_framed, directed}
use Rattle.etcs_rows.specs.Frames.{BodyLength, may_be_left, LengthFits, NumberFits, way_of}
use Rattle.etcs_packets.specs.PacketValues as packets
use Rattle.etcs_packets.specs.PacketValues.{PacketValue, bits_to}
use Rattle.etcs_packets.specs.PacketReadings.{readings_to}
use Rattle.etcs_packets.specs.laws.PacketReadings.{bits_are}
use Rattle.etcs_sequence.specs.Contents.{closing, Carries, PacketsIn, ReadsPackets, BodyIn, AfterLength, AfterNumber}
use Rattle.etcs_sequence.specs.laws.Others.{kept_fault, kept_framed}
use Rattle.etcs_sequence.specs.laws.RunSteps.{beyond, both_length, in_front, framed_carried}
use Rattle.etcs_sequence.proofs.Padding.{padded}
use Rattle.etcs_sequence.specs.laws.Framed.{typed_framed, marker_marked, kept_three, some_direction}

-- ---- What may be left after a packet.

either : (a b : Bool) → IsTrue (a || b) → IsTrue a ⊎ IsTrue b
either true b h = inl refl
either false b h = inr h

first_of : (a b : Bool) → IsTrue a → IsTrue (a || b)
first_of true b h = refl
first_of false b h = absurd cc

second_of : (a b : Bool) → IsTrue b → IsTrue (a || b)
second_of true b h = refl
second_of false b h = h

-- a packet that fills a message
filled : (way : Way) (room : ℕ) → frame_bits way ≤ room → room ≤ 8191 → (r : Reading) × PacketsIn (Message way) room r
filled way room least most =
    let n = frame_bits way in
    let bits = room - n in
    let v = packets.kept 3 0 (replicate bits false) in
    let short : length (replicate bits false) ≡ bits = length-replicate bits false in
    let is = kept_fault way 3 0 (length (replicate bits false)) (kept_three way) (some_direction way) (omega (arith, short, most)) in
    let len : bits_to way v ≡ room = omega (arith, short, least) in
    (_, in_front (Message way) room room v [] (framed_carried (Message way) v is (kept_framed way 3 (kept_three way))) (bits_are way v ∙ len) (omega arith) ((padded way (room - room) (omega arith) []).0 refl))

pub run_some : (c : Carrier) (room : ℕ) → room ≤ 8191 → IsTrue (may_be_left c room) → (r : Reading) × PacketsIn c room r
run_some Telegram room small h = ((NID_PACKET, 255) ∷ [], ([], record { carried = All-nil _; reading_is = refl; fills = omega (arith, leb-true 8 room h, length-sent NID_PACKET 255 []) }))
run_some (Message way) room small h =
    elim (either (nat_le room 7) (nat_le (frame_bits way) room) h) [
      | inl le ↦ ([], (padded way room (leb-true room 7 le) []).0 refl)
      | inr ge ↦ filled way room (leb-true (frame_bits way) room ge) small
    ]

framed_bits : (way : Way) (v : PacketValue) → Carries (Message way) v → frame_bits way ≤ bits_to way v
framed_bits way (packets.marker n) h = absurd (marker_marked way n h.0 h.1)
framed_bits way (packets.typed nid dir r) h = omega arith
framed_bits way (packets.kept nid dir b) h = omega arith

-- packet 255 has 8 bits
closing_bits : (vs : List PacketValue) (r : Reading) → r ≡ readings_to ToTrain vs ++ closing Telegram → 8 ≤ length (spelled r)
closing_bits vs r e = omega (arith, ap (λ (t : Reading). length (spelled t)) e, both_length (readings_to ToTrain vs) ((NID_PACKET, 255) ∷ []), length-sent NID_PACKET 255 [])

run_left : (c : Carrier) (room : ℕ) (vs : List PacketValue) (r : Reading) → ReadsPackets c room vs r → IsTrue (may_be_left c room)
run_left Telegram room vs r run = le-leb 8 room (omega (arith, run.fills, closing_bits vs r run.reading_is))
run_left (Message way) room [] r run = first_of (nat_le room 7) (nat_le (frame_bits way) room) (le-leb room 7 (let none : length (spelled r) ≡ 0 = ap (λ (t : Reading). length (spelled t)) run.reading_is in omega (arith, none, run.fills.1)))
run_left (Message way) room (v ∷ vs) r run =
    let b = beyond (Message way) room (bits_to way v) v vs r run (bits_are way v) in
    second_of (nat_le room 7) (nat_le (frame_bits way) room) (le-leb (frame_bits way) room (omega (arith, b.2, framed_bits way v (All-head (Carries (Message way)) v vs run.carried))))

-- ---- Lengths and numbers.

-- with no numbers before
pub front_none : (r rest : Reading) (row : Layout) → numbers r ≡ [] → Reads row [] (r ++ rest) → Reads row [] rest
front_none [] rest row e reads = reads
front_none (p ∷ r) rest row e reads = absurd cc

-- some body has this many bits
body_some : (way : Way) (nid m : ℕ) → BodyLength way nid m → (r : Reading) × BodyIn way nid m r
body_some way nid m (inl (row, e, (r, rest, reads, none, len, small))) = (rest, inl (row, e, (front_none r rest row none reads, len)))
body_some way nid m (inr k) = (kept OTHER_DATA (replicate m false), inr (k, (replicate m false, length-replicate m false, refl)))

some_body : (way : Way) (nid m : ℕ) (r : Reading) → m ≤ 8191 → BodyIn way nid m r → BodyLength way nid m
some_body way nid m r small (inl (row, e, (reads, len))) = inl (row, e, ([], r, reads, refl, len, small))
some_body way nid m r small (inr (k, (b, l, e))) = inr k

pub length_some : (c : Carrier) (nid room l : ℕ) → room ≤ 8191 → LengthFits c nid room l → (r : Reading) × AfterLength c nid room l r
length_some c nid room l small (least, most, body, (le, left)) =
    let b = body_some (way_of c) nid (l - frame_bits (way_of c)) body in
    let q = run_some c (room - l) (omega (arith, small)) left in
    (b.0 ++ q.0, (least, most, le, (b.0, q.0, refl, b.1, q.1)))

pub some_length : (c : Carrier) (nid room l : ℕ) (r : Reading) → AfterLength c nid room l r → LengthFits c nid room l
some_length c nid room l r (least, most, le, (a, q, e, body, (vs, run))) = (least, most, some_body (way_of c) nid (l - frame_bits (way_of c)) a (omega (arith, most)) body, (le, run_left c (room - l) vs q run))

-- a number that has a length has a frame
body_number : (way : Way) (nid m : ℕ) → BodyLength way nid m → IsTrue (is_framed way nid)
body_number way nid m (inl (row, e, l)) = typed_framed way nid row e
body_number way nid m (inr k) = kept_framed way nid k

pub number_some : (c : Carrier) (room n : ℕ) → room ≤ 8191 → NumberFits c room n → (r : Reading) × AfterNumber c room n r
number_some Telegram room n small (inl (inl (is, le))) = ([], inl (refl, is, le, refl))
number_some Telegram room n small (inl (inr (is, le))) =
    let q = run_some Telegram (room - 14) (omega (arith, small)) (le-leb 8 (room - 14) (omega (arith, le))) in
    ((NID_VBCMK, 0) ∷ q.0, inr (inl (refl, is, (0, q.0, refl, (refl, omega (arith, le), q.1)))))
number_some (Message way) room n small (inl none) = absurd none
number_some c room n small (inr (l, fits)) =
    let way = way_of c in
    let q = length_some c n room l small fits in
    let beyond : Reading = (L_PACKET, l) ∷ q.0 in
    (directed way 0 beyond, inr (inr (body_number way n (l - frame_bits way) fits.2, (0, beyond, refl, some_direction way, (l, q.0, refl, q.1)))))

pub some_number : (c : Carrier) (room n : ℕ) (r : Reading) → AfterNumber c room n r → NumberFits c room n
some_number c room n r (inl (same, is, le, e)) = subst (λ (x : Carrier). NumberFits x room n) (sym same) (inl (inl (is, le)))
some_number c room n r (inr (inl (same, is, (m, q, e, (a, le, (vs, run)))))) =
    subst (λ (x : Carrier). NumberFits x room n) (sym same) (inl (inr (is, omega (arith, le, leb-true 8 (room - 14) (run_left Telegram (room - 14) vs q run)))))
some_number c room n r (inr (inr (framed, (dir, r1, e1, a, (l, r2, e2, after))))) = inr (l, some_length c n room l r2 after)
