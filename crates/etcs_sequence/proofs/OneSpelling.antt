-- Packets with one spelling are one.
use Rattle.std.proofs.Common.{◌≡◌, ℕ, ◌+◌, ◌-◌, Bool, true, false, List, [], ◌∷◌, ◌++◌, length, refl, sym, ap, subst, ◌∙◌, arith}
use Rattle.std.proofs.lemmas.Bool.{eqb-true}
use Rattle.std.proofs.lemmas.List.{append-nil}
use Rattle.std.proofs.lemmas.List.Elements.{All-head}
use Rattle.std.specs.Prelude.{IsTrue}
use Rattle.etcs_vars.specs.declared.var.Var.{Var}
use Rattle.etcs_vars.specs.declared.var.Var.TheVariants.{NID_PACKET, NID_VBCMK, Q_DIR, L_PACKET, OTHER_DATA}
use Rattle.etcs_vars.specs.Reading.{Sent, Reading, spelled, kept}
use Rattle.etcs_vars.proofs.Apart.{apart, Agree-cut}
use Rattle.etcs_tables.specs.declared.row.Way.{Way}
use Rattle.etcs_tables.specs.declared.row.Way.TheVariants.{ToTrain, ToTrack}
use Rattle.etcs_tables.specs.Rows.{row_to}
use Rattle.etcs_tables.specs.Frames.{frame_bits, is_framed, is_kept, is_marker, is_direction, directed}
use Rattle.etcs_rows.specs.declared.frames.Carrier.{Carrier}
use Rattle.etcs_rows.specs.declared.frames.Carrier.TheVariants.{Telegram, Message}
use Rattle.etcs_rows.specs.Frames.{way_of}
use Rattle.etcs_packets.specs.PacketValues as packets
use Rattle.etcs_packets.specs.PacketValues.{PacketValue, IsPacketTo, bits_to}
use Rattle.etcs_packets.specs.PacketReadings.{in_frame, reading_to}
use Rattle.etcs_packets.specs.laws.PacketReadings.{bits_are}
use Rattle.etcs_sequence.specs.Contents.{Carries, ReadsPackets, IsUnmarked}
use Rattle.etcs_sequence.specs.Spellings.{OneSpelling}
use Rattle.etcs_sequence.specs.laws.Others.{kept_parts, kept_untyped, kept_framed}
use Rattle.etcs_sequence.specs.laws.RunSteps.{carried_packet, beyond}
use Rattle.etcs_sequence.specs.laws.Agreement.{run_regular, packet_agree, full, numbered_below}
use Rattle.etcs_sequence.specs.laws.Framed.{typed_framed, framed_unmarked, marker_marked}

-- equal pairs have equal numbers, and equal lists equal parts
same_number : (v : Var) (n m : ℕ) → ◌≡◌ {A = Sent} (v, n) (v, m) → n ≡ m
same_number v n m e = ap (λ (p : Sent). p.1) e

first_same : (p q : Sent) (r s : Reading) → ◌≡◌ {A = Reading} (p ∷ r) (q ∷ s) → (p ≡ q) × (r ≡ s)
first_same p q r s e = (let first : p ≡ q = cc in first, let rest : r ≡ s = cc in rest)

kept_same : (a b : List Bool) → kept OTHER_DATA a ≡ kept OTHER_DATA b → a ≡ b
kept_same [] [] e = refl
kept_same [] (y ∷ b) e = absurd cc
kept_same (x ∷ a) [] e = absurd cc
kept_same (true ∷ a) (true ∷ b) e = ap (λ (t : List Bool). true ∷ t) (kept_same a b (first_same (OTHER_DATA, 1) (OTHER_DATA, 1) (kept OTHER_DATA a) (kept OTHER_DATA b) e).1)
kept_same (false ∷ a) (false ∷ b) e = ap (λ (t : List Bool). false ∷ t) (kept_same a b (first_same (OTHER_DATA, 0) (OTHER_DATA, 0) (kept OTHER_DATA a) (kept OTHER_DATA b) e).1)
kept_same (true ∷ a) (false ∷ b) e = absurd (let n = same_number OTHER_DATA 1 0 (first_same (OTHER_DATA, 1) (OTHER_DATA, 0) (kept OTHER_DATA a) (kept OTHER_DATA b) e).0 in omega (arith, n))
kept_same (false ∷ a) (true ∷ b) e = absurd (let n = same_number OTHER_DATA 0 1 (first_same (OTHER_DATA, 0) (OTHER_DATA, 1) (kept OTHER_DATA a) (kept OTHER_DATA b) e).0 in omega (arith, n))

-- the parts of equal frames with bodies
directions_same : (way : Way) (dir dir' : ℕ) (a b : Reading) → IsTrue (is_direction way dir) → IsTrue (is_direction way dir') → directed way dir a ≡ directed way dir' b → (dir ≡ dir') × (a ≡ b)
directions_same ToTrain dir dir' a b d d' e = let two = first_same (Q_DIR, dir) (Q_DIR, dir') a b e in (same_number Q_DIR dir dir' two.0, two.1)
directions_same ToTrack dir dir' a b d d' e = (eqb-true dir 0 d ∙ sym (eqb-true dir' 0 d'), e)

frames_same : (way : Way) (nid nid' dir dir' bits bits' : ℕ) (a b : Reading) → IsTrue (is_direction way dir) → IsTrue (is_direction way dir') → in_frame way nid dir bits a ≡ in_frame way nid' dir' bits' b → (nid ≡ nid') × (dir ≡ dir') × (a ≡ b)
frames_same way nid nid' dir dir' bits bits' a b d d' e =
    let n = frame_bits way in
    let one = first_same (NID_PACKET, nid) (NID_PACKET, nid') (directed way dir ((L_PACKET, n + bits) ∷ a)) (directed way dir' ((L_PACKET, n + bits') ∷ b)) e in
    let two = directions_same way dir dir' ((L_PACKET, n + bits) ∷ a) ((L_PACKET, n + bits') ∷ b) d d' one.1 in
    let three = first_same (L_PACKET, n + bits) (L_PACKET, n + bits') a b two.1 in
    (same_number NID_PACKET nid nid' one.0, two.0, three.1)

marked_apart : (way : Way) (m n nid dir bits : ℕ) (a : Reading) → IsTrue (is_marker way m) → IsTrue (is_framed way nid) → ◌≡◌ {A = Reading} ((NID_PACKET, 0) ∷ (NID_VBCMK, n) ∷ []) (in_frame way nid dir bits a) → ⊥
marked_apart way m n nid dir bits a mark framed e =
    let one = first_same (NID_PACKET, 0) (NID_PACKET, nid) ((NID_VBCMK, n) ∷ []) (directed way dir ((L_PACKET, frame_bits way + bits) ∷ a)) e in
    marker_marked way m mark (subst (IsUnmarked way) (sym (same_number NID_PACKET 0 nid one.0)) (framed_unmarked way nid framed))

pub packet_same : (way : Way) (v u : PacketValue) → IsPacketTo way v → IsPacketTo way u → reading_to way v ≡ reading_to way u → v ≡ u
packet_same way (packets.marker n) (packets.marker m) hv hu e =
    let one = first_same (NID_PACKET, 0) (NID_PACKET, 0) ((NID_VBCMK, n) ∷ []) ((NID_VBCMK, m) ∷ []) e in
    let two = first_same (NID_VBCMK, n) (NID_VBCMK, m) [] [] one.1 in
    ap packets.marker (same_number NID_VBCMK n m two.0)
packet_same way (packets.marker n) (packets.typed nid dir r) hv (row, f, a, reads, short) e = absurd (marked_apart way n n nid dir (length (spelled r)) r hv (typed_framed way nid row f) e)
packet_same way (packets.marker n) (packets.kept nid dir b) hv hu e = absurd (marked_apart way n n nid dir (length b) (kept OTHER_DATA b) hv (kept_framed way nid (kept_parts way nid dir (length b) hu).0) e)
packet_same way (packets.typed nid dir r) (packets.marker m) (row, f, a, reads, short) hu e = absurd (marked_apart way m m nid dir (length (spelled r)) r hu (typed_framed way nid row f) (sym e))
packet_same way (packets.kept nid dir b) (packets.marker m) hv hu e = absurd (marked_apart way m m nid dir (length b) (kept OTHER_DATA b) hu (kept_framed way nid (kept_parts way nid dir (length b) hv).0) (sym e))
packet_same way (packets.typed nid dir r) (packets.typed nid' dir' r') (row, f, a, reads, short) (row', f', a', reads', short') e =
    let s = frames_same way nid nid' dir dir' (length (spelled r)) (length (spelled r')) r r' a a' e in
    rw (s.0, s.1, s.2) refl
packet_same way (packets.typed nid dir r) (packets.kept nid' dir' b) (row, f, a, reads, short) hu e =
    let k = kept_parts way nid' dir' (length b) hu in
    let s = frames_same way nid nid' dir dir' (length (spelled r)) (length b) r (kept OTHER_DATA b) a k.1 e in
    absurd (kept_untyped way nid row (subst (λ (n : ℕ). IsTrue (is_kept way n)) (sym s.0) k.0) f)
packet_same way (packets.kept nid dir b) (packets.typed nid' dir' r') hv (row, f, a, reads, short) e =
    let k = kept_parts way nid dir (length b) hv in
    let s = frames_same way nid nid' dir dir' (length b) (length (spelled r')) (kept OTHER_DATA b) r' k.1 a e in
    absurd (kept_untyped way nid row k.0 (ap (row_to way) s.0 ∙ f))
packet_same way (packets.kept nid dir b) (packets.kept nid' dir' b') hv hu e =
    let s = frames_same way nid nid' dir dir' (length b) (length b') (kept OTHER_DATA b) (kept OTHER_DATA b') (kept_parts way nid dir (length b) hv).1 (kept_parts way nid' dir' (length b') hu).1 e in
    let body = kept_same b b' s.2 in
    rw (s.0, s.1, body) refl

-- packet 255 is no packet's beginning
pub closed_apart : (v : PacketValue) (q : Reading) → IsPacketTo ToTrain v → (NID_PACKET, 255) ∷ [] ≡ reading_to ToTrain v ++ q → ⊥
closed_apart v q h e =
    let b = numbered_below v h in
    let e' : ◌≡◌ {A = Reading} ((NID_PACKET, 255) ∷ []) ((NID_PACKET, b.0) ∷ (b.1 ++ q)) = e ∙ ap (λ (t : Reading). t ++ q) b.2 in
    let n = same_number NID_PACKET 255 b.0 (first_same (NID_PACKET, 255) (NID_PACKET, b.0) [] (b.1 ++ q) e').0 in
    omega (arith, n, b.3)

pub packets_same : (c : Carrier) (room : ℕ) (vs us : List PacketValue) (r q : Reading) → ReadsPackets c room vs r → ReadsPackets c room us q → r ≡ q → vs ≡ us
packets_same c room [] [] r q hr hq e = refl
packets_same Telegram room [] (u ∷ us) r q hr hq e =
    let b = beyond Telegram room (bits_to ToTrain u) u us q hq (bits_are ToTrain u) in
    absurd (closed_apart u b.0 (All-head (Carries Telegram) u us hq.carried) (sym hr.reading_is ∙ e ∙ b.1))
packets_same (Message way) room [] (u ∷ us) r q hr hq e = absurd (full way room u us r q hr hq)
packets_same Telegram room (v ∷ vs) [] r q hr hq e =
    let b = beyond Telegram room (bits_to ToTrain v) v vs r hr (bits_are ToTrain v) in
    absurd (closed_apart v b.0 (All-head (Carries Telegram) v vs hr.carried) (sym hq.reading_is ∙ sym e ∙ b.1))
packets_same (Message way) room (v ∷ vs) [] r q hr hq e = absurd (full way room v vs q r hq hr)
packets_same c room (v ∷ vs) (u ∷ us) r q hr hq e =
    let way = way_of c in
    let bv = beyond c room (bits_to way v) v vs r hr (bits_are way v) in
    let bu = beyond c room (bits_to way u) u us q hq (bits_are way u) in
    let hv = carried_packet c v (All-head (Carries c) v vs hr.carried) in
    let hu = carried_packet c u (All-head (Carries c) u us hq.carried) in
    let parts = Agree-cut (reading_to way v) (reading_to way u) bv.0 bu.0 (packet_agree way v u hv hu) (sym bv.1 ∙ e ∙ bu.1) in
    let first = packet_same way v u hv hu parts.0 in
    let rest = packets_same c (room - bits_to way v) vs us bv.0 bu.0 bv.3 (subst (λ (w : PacketValue). ReadsPackets c (room - bits_to way w) us bu.0) (sym first) bu.3) parts.1 in
    rw (first, rest) refl

pub one_spelling : OneSpelling
one_spelling c room vs us a b more ha hb e =
    let regular = run_regular c room in
    let whole : spelled b ++ [] ≡ spelled a ++ more = append-nil (spelled b) ∙ e in
    let parts = apart b a [] more (regular.agree b a (us, hb) (vs, ha)) (regular.fit b (us, hb)) (regular.fit a (vs, ha)) whole in
    (packets_same c room vs us a b ha hb (sym parts.0), sym parts.1)
