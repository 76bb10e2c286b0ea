-- Runs of packets in one room part only at the number of one variable, so no spelling of one begins another.
use Rattle.std.proofs.Common.{◌≡◌, ℕ, ◌+◌, ◌-◌, ◌<◌, ◌≤◌, Bool, true, false, List, [], ◌∷◌, ◌++◌, length, Some, refl, sym, ap, subst, ◌∙◌, arith, inl, inr}
use Rattle.std.specs.Prelude.{IsTrue, ◌⊎◌}
use Rattle.std.proofs.lemmas.List.Elements.{All-head}
use Rattle.etcs_vars.specs.declared.var.Var.{Var}
use Rattle.etcs_vars.specs.declared.var.Var.TheVariants.{NID_PACKET, NID_VBCMK, Q_DIR, L_PACKET, OTHER_DATA}
use Rattle.etcs_vars.specs.Reading.{Sent, Reading, spelled, kept}
use Rattle.etcs_vars.proofs.Prefixes.{admits_parts}
use Rattle.etcs_vars.proofs.Apart.{Agree, AllFit, Agree-append, AllFit-append}
use Rattle.etcs_vars.proofs.Walk.{Regular}
use Rattle.etcs_tables.specs.declared.row.Way.TheVariants.{ToTrain, ToTrack}
use Rattle.etcs_rows.specs.declared.frames.Carrier.{Carrier}
use Rattle.etcs_rows.specs.declared.frames.Carrier.TheVariants.{Telegram, Message}
use Rattle.etcs_tables.specs.Rows.{row_to}
use Rattle.etcs_tables.specs.declared.row.Way.{Way}
use Rattle.etcs_tables.specs.Frames.{frame_bits, kept_limit, is_framed, is_marker, is_direction, directed}
use Rattle.etcs_rows.specs.laws.OneReading.{Reads-agree, Reads-fit}
use Rattle.etcs_rows.specs.Frames.{way_of}
use Rattle.etcs_packets.specs.PacketValues as packets
use Rattle.etcs_packets.specs.PacketValues.{PacketValue, IsPacketTo, bits_to}
use Rattle.etcs_packets.specs.PacketReadings.{in_frame, reading_to}
use Rattle.etcs_packets.specs.laws.PacketReadings.{bits_are}
use Rattle.etcs_sequence.specs.Contents.{Carries, PacketsIn, ReadsPackets, IsUnmarked}
use Rattle.etcs_sequence.specs.laws.Others.{kept_parts, kept_untyped, kept_framed}
use Rattle.etcs_sequence.specs.laws.RunSteps.{carried_packet, beyond}
use Rattle.etcs_sequence.specs.laws.Framed.{framed_parts, typed_framed, framed_small, framed_unmarked, marker_marked, marker_small, frame_between, row_limit}

-- ---- Packets.

-- this many bits of one variable
kept_agree : (v : Var) (a b : List Bool) → length a ≡ length b → Agree (kept v a) (kept v b)
kept_agree v [] [] l = tt
kept_agree v [] (y ∷ b) l = absurd (omega (arith, l))
kept_agree v (x ∷ a) [] l = absurd (omega (arith, l))
kept_agree v (x ∷ a) (y ∷ b) l = (refl, λ e. kept_agree v a b (omega (arith, l)))

kept_fit : (a : List Bool) → AllFit (kept OTHER_DATA a)
kept_fit [] = tt
kept_fit (true ∷ a) = (omega arith, kept_fit a)
kept_fit (false ∷ a) = (omega arith, kept_fit a)

-- the numbers of two equal pairs
same_number : (v : Var) (n m : ℕ) → ◌≡◌ {A = Sent} (v, n) (v, m) → n ≡ m
same_number v n m e = ap (λ (p : Sent). p.1) e

-- so do directions, if what follows them does
directions_agree : (way : Way) (dir dir' : ℕ) (a b : Reading) → Agree a b → Agree (directed way dir a) (directed way dir' b)
directions_agree ToTrain dir dir' a b h = (refl, λ e. h)
directions_agree ToTrack dir dir' a b h = h

-- frames agree, and if they are one so do their bodies
frames_agree : (way : Way) (nid nid' dir dir' bits bits' : ℕ) (a b : Reading) → (nid ≡ nid' → bits ≡ bits' → Agree a b) → Agree (in_frame way nid dir bits a) (in_frame way nid' dir' bits' b)
frames_agree way nid nid' dir dir' bits bits' a b h =
    let n = frame_bits way in
    (refl, λ e1. directions_agree way dir dir' ((L_PACKET, n + bits) ∷ a) ((L_PACKET, n + bits') ∷ b) (refl, λ e3. h (same_number NID_PACKET nid nid' e1) (let l = same_number L_PACKET (n + bits) (n + bits') e3 in omega (arith, l))))

-- packet 0 and a frame part at their numbers
marked_agree : (way : Way) (m n nid dir bits : ℕ) (a : Reading) → IsTrue (is_marker way m) → IsTrue (is_framed way nid) → Agree ((NID_PACKET, 0) ∷ (NID_VBCMK, n) ∷ []) (in_frame way nid dir bits a)
marked_agree way m n nid dir bits a mark framed = (refl, λ e. absurd (marker_marked way m mark (subst (IsUnmarked way) (sym (same_number NID_PACKET 0 nid e)) (framed_unmarked way nid framed))))

framed_agree : (way : Way) (m n nid dir bits : ℕ) (a : Reading) → IsTrue (is_marker way m) → IsTrue (is_framed way nid) → Agree (in_frame way nid dir bits a) ((NID_PACKET, 0) ∷ (NID_VBCMK, n) ∷ [])
framed_agree way m n nid dir bits a mark framed = (refl, λ e. absurd (marker_marked way m mark (subst (IsUnmarked way) (same_number NID_PACKET nid 0 e) (framed_unmarked way nid framed))))

pub packet_agree : (way : Way) (v u : PacketValue) → IsPacketTo way v → IsPacketTo way u → Agree (reading_to way v) (reading_to way u)
packet_agree way (packets.marker n) (packets.marker m) hv hu = (refl, λ e. (refl, λ f. tt))
packet_agree way (packets.marker n) (packets.typed nid dir r) hv (row, e, a, reads, short) = marked_agree way n n nid dir (length (spelled r)) r hv (typed_framed way nid row e)
packet_agree way (packets.marker n) (packets.kept nid dir b) hv hu = marked_agree way n n nid dir (length b) (kept OTHER_DATA b) hv (kept_framed way nid (kept_parts way nid dir (length b) hu).0)
packet_agree way (packets.typed nid dir r) (packets.marker m) (row, e, a, reads, short) hu = framed_agree way m m nid dir (length (spelled r)) r hu (typed_framed way nid row e)
packet_agree way (packets.typed nid dir r) (packets.typed nid' dir' r') (row, e, a, reads, short) (row', e', a', reads', short') =
    frames_agree way nid nid' dir dir' (length (spelled r)) (length (spelled r')) r r'
    (λ same bits. let found : Some row ≡ Some row' = sym e ∙ ap (row_to way) same ∙ e' in let one : row' ≡ row = cc in Reads-agree row [] r r' reads (rw one at reads'))
packet_agree way (packets.typed nid dir r) (packets.kept nid' dir' b) (row, e, a, reads, short) hu =
    frames_agree way nid nid' dir dir' (length (spelled r)) (length b) r (kept OTHER_DATA b)
    (λ same bits. absurd (kept_untyped way nid' row (kept_parts way nid' dir' (length b) hu).0 (ap (row_to way) (sym same) ∙ e)))
packet_agree way (packets.kept nid dir b) (packets.marker m) hv hu = framed_agree way m m nid dir (length b) (kept OTHER_DATA b) hu (kept_framed way nid (kept_parts way nid dir (length b) hv).0)
packet_agree way (packets.kept nid dir b) (packets.typed nid' dir' r') hv (row', e', a', reads', short') =
    frames_agree way nid nid' dir dir' (length b) (length (spelled r')) (kept OTHER_DATA b) r'
    (λ same bits. absurd (kept_untyped way nid row' (kept_parts way nid dir (length b) hv).0 (ap (row_to way) same ∙ e')))
packet_agree way (packets.kept nid dir b) (packets.kept nid' dir' b') hv hu =
    frames_agree way nid nid' dir dir' (length b) (length b') (kept OTHER_DATA b) (kept OTHER_DATA b') (λ same bits. kept_agree OTHER_DATA b b' bits)

-- a frame's numbers fit
direction_fit : (way : Way) (dir : ℕ) (a : Reading) → IsTrue (is_direction way dir) → AllFit a → AllFit (directed way dir a)
direction_fit ToTrain dir a d fit = ((admits_parts Q_DIR dir d).1, fit)
direction_fit ToTrack dir a d fit = fit

frame_fit : (way : Way) (nid dir bits : ℕ) (a : Reading) → IsTrue (is_framed way nid) → IsTrue (is_direction way dir) → bits ≤ kept_limit way → AllFit a → AllFit (in_frame way nid dir bits a)
frame_fit way nid dir bits a n d b fit = (framed_small way nid n, direction_fit way dir ((L_PACKET, frame_bits way + bits) ∷ a) d (omega (arith, b, (frame_between way).1), fit))

pub packet_fit : (way : Way) (v : PacketValue) → IsPacketTo way v → AllFit (reading_to way v)
packet_fit way (packets.marker n) h = (omega arith, (marker_small way n h, tt))
packet_fit way (packets.typed nid dir r) (row, e, a, reads, short) = frame_fit way nid dir (length (spelled r)) r (typed_framed way nid row e) a (omega (arith, short, row_limit way)) (Reads-fit row [] r reads)
packet_fit way (packets.kept nid dir b) h =
    let k = kept_parts way nid dir (length b) h in
    frame_fit way nid dir (length b) (kept OTHER_DATA b) (kept_framed way nid k.0) k.1 k.2 (kept_fit b)

-- ---- Runs.

-- a packet begins with a number, that of a marker or of a frame
pub numbered : (way : Way) (v : PacketValue) → IsPacketTo way v → (n : ℕ) × (r : Reading) × (reading_to way v ≡ (NID_PACKET, n) ∷ r) × ((n ≡ 0) ⊎ IsTrue (is_framed way n))
numbered way (packets.marker n) h = (0, (NID_VBCMK, n) ∷ [], refl, inl refl)
numbered way (packets.typed nid dir r) (row, e, a, reads, short) = (nid, _, refl, inr (typed_framed way nid row e))
numbered way (packets.kept nid dir b) h = (nid, _, refl, inr (kept_framed way nid (kept_parts way nid dir (length b) h).0))

-- to the train none is 255
unclosed : (n : ℕ) → (n ≡ 0) ⊎ IsTrue (is_framed ToTrain n) → n < 255
unclosed n (inl is) = omega (arith, is)
unclosed n (inr framed) = (framed_parts n framed).1

pub numbered_below : (v : PacketValue) → IsPacketTo ToTrain v → (n : ℕ) × (r : Reading) × (reading_to ToTrain v ≡ (NID_PACKET, n) ∷ r) × (n < 255)
numbered_below v h = let b = numbered ToTrain v h in (b.0, b.1, b.2, unclosed b.0 b.3)

pub some_bits : (way : Way) (v : PacketValue) → 14 ≤ bits_to way v
some_bits way (packets.marker n) = omega arith
some_bits way (packets.typed nid dir r) = omega (arith, (frame_between way).0)
some_bits way (packets.kept nid dir b) = omega (arith, (frame_between way).0)

-- packet 255 and a packet part at their numbers
closed_agree : (v : PacketValue) (r : Reading) → IsPacketTo ToTrain v → Agree ((NID_PACKET, 255) ∷ []) (reading_to ToTrain v ++ r)
closed_agree v r h = let b = numbered_below v h in rw b.2 (refl, λ e. absurd (let s = same_number NID_PACKET 255 b.0 e in omega (arith, s, b.3)))

agree_closed : (v : PacketValue) (r : Reading) → IsPacketTo ToTrain v → Agree (reading_to ToTrain v ++ r) ((NID_PACKET, 255) ∷ [])
agree_closed v r h = let b = numbered_below v h in rw b.2 (refl, λ e. absurd (let s = same_number NID_PACKET b.0 255 e in omega (arith, s, b.3)))

-- a message that is full has no packet more
pub full : (way : Way) (room : ℕ) (v : PacketValue) (vs : List PacketValue) (r q : Reading) → ReadsPackets (Message way) room [] r → ReadsPackets (Message way) room (v ∷ vs) q → ⊥
full way room v vs r q done run =
    let b = beyond (Message way) room (bits_to way v) v vs q run (bits_are way v) in
    let none : length (spelled r) ≡ 0 = ap (λ (t : Reading). length (spelled t)) done.reading_is in
    omega (arith, done.fills.1, none, b.2, some_bits way v)

runs_agree : (c : Carrier) (room : ℕ) (vs us : List PacketValue) (r q : Reading) → ReadsPackets c room vs r → ReadsPackets c room us q → Agree r q
runs_agree Telegram room [] [] r q hr hq = rw (hr.reading_is, hq.reading_is) (refl, λ e. tt)
runs_agree (Message way) room [] [] r q hr hq = rw (hr.reading_is, hq.reading_is) tt
runs_agree Telegram room [] (u ∷ us) r q hr hq =
    let b = beyond Telegram room (bits_to ToTrain u) u us q hq (bits_are ToTrain u) in
    rw (hr.reading_is, b.1) (closed_agree u b.0 (All-head (Carries Telegram) u us hq.carried))
runs_agree (Message way) room [] (u ∷ us) r q hr hq = absurd (full way room u us r q hr hq)
runs_agree Telegram room (v ∷ vs) [] r q hr hq =
    let b = beyond Telegram room (bits_to ToTrain v) v vs r hr (bits_are ToTrain v) in
    rw (hq.reading_is, b.1) (agree_closed v b.0 (All-head (Carries Telegram) v vs hr.carried))
runs_agree (Message way) room (v ∷ vs) [] r q hr hq = absurd (full way room v vs q r hq hr)
runs_agree c room (v ∷ vs) (u ∷ us) r q hr hq =
    let way = way_of c in
    let bv = beyond c room (bits_to way v) v vs r hr (bits_are way v) in
    let bu = beyond c room (bits_to way u) u us q hq (bits_are way u) in
    let first = packet_agree way v u (carried_packet c v (All-head (Carries c) v vs hr.carried)) (carried_packet c u (All-head (Carries c) u us hq.carried)) in
    rw (bv.1, bu.1) (
    Agree-append (reading_to way v) (reading_to way u) bv.0 bu.0 first
    (λ e. let bits : bits_to way u ≡ bits_to way v = sym (bits_are way u) ∙ ap (λ (t : Reading). length (spelled t)) (sym e) ∙ bits_are way v in
    runs_agree c (room - bits_to way v) vs us bv.0 bu.0 bv.3 (subst (λ (k : ℕ). ReadsPackets c (room - k) us bu.0) bits bu.3)))

runs_fit : (c : Carrier) (room : ℕ) (vs : List PacketValue) (r : Reading) → ReadsPackets c room vs r → AllFit r
runs_fit Telegram room [] r h = rw h.reading_is (omega arith, tt)
runs_fit (Message way) room [] r h = rw h.reading_is tt
runs_fit c room (v ∷ vs) r h =
    let way = way_of c in
    let b = beyond c room (bits_to way v) v vs r h (bits_are way v) in
    rw b.1 (AllFit-append (reading_to way v) b.0 (packet_fit way v (carried_packet c v (All-head (Carries c) v vs h.carried))) (runs_fit c (room - bits_to way v) vs b.0 b.3))

pub run_regular : (c : Carrier) (room : ℕ) → Regular (PacketsIn c room)
run_regular c room = record { agree = λ a b (vs, ha) (us, hb). runs_agree c room vs us a b ha hb; fit = λ a (vs, h). runs_fit c room vs a h }
