-- What was read of packets is known by its variables.
use Rattle.std.proofs.Common.{◌≡◌, ℕ, ◌+◌, ◌<◌, Bool, List, [], ◌∷◌, ◌++◌, length, Some, None, refl, sym, ap, ◌∙◌, arith, append_assoc, inl, inr}
use Rattle.std.specs.Prelude.{All, is_some, Option, IsTrue}
use Rattle.std.proofs.lemmas.List.Elements.{All-head, All-tail}
use Rattle.etcs_vars.specs.declared.var.Var.TheVariants.{NID_PACKET, NID_VBCMK, Q_DIR, L_PACKET, OTHER_DATA}
use Rattle.etcs_vars.specs.Reading.{Reading, spelled, numbers, kept}
use Rattle.etcs_vars.proofs.Apart.{Agree-cut}
use Rattle.etcs_tables.specs.declared.row.Way.{Way}
use Rattle.etcs_tables.specs.declared.row.Way.TheVariants.{ToTrain, ToTrack}
use Rattle.etcs_tables.specs.Layouts.{Layout}
use Rattle.etcs_tables.specs.Rows.{row_to}
use Rattle.etcs_tables.specs.Frames.{is_kept, directed}
use Rattle.etcs_rows.proofs.LengthLemmas.{length-spelled}
use Rattle.etcs_packets.specs.PacketValues as packets
use Rattle.etcs_packets.specs.PacketValues.{PacketValue, IsPacketTo}
use Rattle.etcs_packets.specs.PacketReadings.{in_frame, reading_to, readings_to}
use Rattle.etcs_packets.specs.laws.PacketReadings.{length-kept, in_frame-append}
use Rattle.etcs_sequence.specs.Runs.{Begun, BegunFrame, BegunRow, BegunKept}
use Rattle.etcs_sequence.specs.laws.Others.{kept_untyped}
use Rattle.etcs_sequence.specs.laws.Agreement.{packet_agree}
use Rattle.etcs_sequence.proofs.OneSpelling.{packet_same}
use Rattle.etcs_sequence.proofs.BitLaws.{bits_known}
use Rattle.etcs_sequence.proofs.OneHolding.{sent_parts}

-- ---- What follows whole packets.

-- no packet begins it
abbrev pub NoPacket : Way → Reading → Type 0
NoPacket way r = (v : PacketValue) (q : Reading) → IsPacketTo way v → r ≡ reading_to way v ++ q → ⊥

-- packets with such after them are known by their variables
pub packets_known : (way : Way) (vs us : List PacketValue) (a b : Reading) → All (IsPacketTo way) vs → All (IsPacketTo way) us → NoPacket way a → NoPacket way b → readings_to way vs ++ a ≡ readings_to way us ++ b → (vs ≡ us) × (a ≡ b)
packets_known way [] [] a b hv hu na nb e = (refl, e)
packets_known way [] (u ∷ us) a b hv hu na nb e = absurd (na u (readings_to way us ++ b) (All-head (IsPacketTo way) u us hu) (e ∙ append_assoc (reading_to way u) (readings_to way us) b))
packets_known way (v ∷ vs) [] a b hv hu na nb e = absurd (nb v (readings_to way vs ++ a) (All-head (IsPacketTo way) v vs hv) (sym e ∙ append_assoc (reading_to way v) (readings_to way vs) a))
packets_known way (v ∷ vs) (u ∷ us) a b hv hu na nb e =
    let pv = All-head (IsPacketTo way) v vs hv in
    let pu = All-head (IsPacketTo way) u us hu in
    let whole = sym (append_assoc (reading_to way v) (readings_to way vs) a) ∙ e ∙ append_assoc (reading_to way u) (readings_to way us) b in
    let parts = Agree-cut (reading_to way v) (reading_to way u) (readings_to way vs ++ a) (readings_to way us ++ b) (packet_agree way v u pv pu) whole in
    let first = packet_same way v u pv pu parts.0 in
    let rest = packets_known way vs us a b (All-tail (IsPacketTo way) v vs hv) (All-tail (IsPacketTo way) u us hu) na nb parts.1 in
    (rw (first, rest.0) refl, rest.1)

-- the parts of frames
frame_parts : (way : Way) (nid nid' dir dir' bits bits' : ℕ) (a b : Reading) → in_frame way nid dir bits a ≡ in_frame way nid' dir' bits' b → (nid ≡ nid') × (bits ≡ bits') × (a ≡ b)
frame_parts ToTrain nid nid' dir dir' bits bits' a b e =
    let (v1, n1, r1) = sent_parts NID_PACKET NID_PACKET nid nid' ((Q_DIR, dir) ∷ (L_PACKET, 23 + bits) ∷ a) ((Q_DIR, dir') ∷ (L_PACKET, 23 + bits') ∷ b) e in
    let (v2, n2, r2) = sent_parts Q_DIR Q_DIR dir dir' ((L_PACKET, 23 + bits) ∷ a) ((L_PACKET, 23 + bits') ∷ b) r1 in
    let (v3, n3, r3) = sent_parts L_PACKET L_PACKET (23 + bits) (23 + bits') a b r2 in
    (n1, omega (arith, n3), r3)
frame_parts ToTrack nid nid' dir dir' bits bits' a b e =
    let (v1, n1, r1) = sent_parts NID_PACKET NID_PACKET nid nid' ((L_PACKET, 21 + bits) ∷ a) ((L_PACKET, 21 + bits') ∷ b) e in
    let (v2, n2, r2) = sent_parts L_PACKET L_PACKET (21 + bits) (21 + bits') a b r1 in
    (n1, omega (arith, n2), r2)

-- a marker's number is followed by no part of a frame
frame_unmarked : (nid dir bits n : ℕ) (t q : Reading) → in_frame ToTrain nid dir bits t ≡ (NID_PACKET, 0) ∷ (NID_VBCMK, n) ∷ q → ⊥
frame_unmarked nid dir bits n t q e =
    let (v1, n1, r1) = sent_parts NID_PACKET NID_PACKET nid 0 ((Q_DIR, dir) ∷ (L_PACKET, 23 + bits) ∷ t) ((NID_VBCMK, n) ∷ q) e in
    let (v2, n2, r2) = sent_parts Q_DIR NID_VBCMK dir n ((L_PACKET, 23 + bits) ∷ t) q r1 in
    absurd cc

-- a frame, followed by fewer bits than it counts
framed_unpacked : (way : Way) (nid dir bits : ℕ) (t : Reading) → length (spelled t) < bits → NoPacket way (in_frame way nid dir bits t)
framed_unpacked ToTrain nid dir bits t less (packets.marker n) q h e = frame_unmarked nid dir bits n t q e
framed_unpacked ToTrack nid dir bits t less (packets.marker n) q h e = absurd cc
framed_unpacked way nid dir bits t less (packets.typed nid' dir' r) q h e =
    let (n, b, rest) = frame_parts way nid nid' dir dir' bits (length (spelled r)) t (r ++ q) (e ∙ in_frame-append way nid' dir' (length (spelled r)) r q) in
    omega (arith, less, b, ap (λ (u : Reading). length (spelled u)) rest, length-spelled r q)
framed_unpacked way nid dir bits t less (packets.kept nid' dir' k) q h e =
    let (n, b, rest) = frame_parts way nid nid' dir dir' bits (length k) t (kept OTHER_DATA k ++ q) (e ∙ in_frame-append way nid' dir' (length k) (kept OTHER_DATA k) q) in
    omega (arith, less, b, ap (λ (u : Reading). length (spelled u)) rest, length-spelled (kept OTHER_DATA k) q, length-kept k)

-- a frame is more than a number, and more than a number and a direction
frame_more : (way : Way) (nid nid' dir bits : ℕ) (t : Reading) → ◌≡◌ {A = Reading} ((NID_PACKET, nid) ∷ []) (in_frame way nid' dir bits t) → ⊥
frame_more ToTrain nid nid' dir bits t e = let two = sent_parts NID_PACKET NID_PACKET nid nid' [] ((Q_DIR, dir) ∷ (L_PACKET, 23 + bits) ∷ t) e in let three = two.2 in absurd cc
frame_more ToTrack nid nid' dir bits t e = let two = sent_parts NID_PACKET NID_PACKET nid nid' [] ((L_PACKET, 21 + bits) ∷ t) e in let three = two.2 in absurd cc

frame_longer : (way : Way) (nid nid' dir dir' bits : ℕ) (t : Reading) → ◌≡◌ {A = Reading} ((NID_PACKET, nid) ∷ directed way dir []) (in_frame way nid' dir' bits t) → ⊥
frame_longer ToTrain nid nid' dir dir' bits t e =
    let (v1, n1, r1) = sent_parts NID_PACKET NID_PACKET nid nid' ((Q_DIR, dir) ∷ []) ((Q_DIR, dir') ∷ (L_PACKET, 23 + bits) ∷ t) e in
    let (v2, n2, r2) = sent_parts Q_DIR Q_DIR dir dir' [] ((L_PACKET, 23 + bits) ∷ t) r1 in
    absurd cc
frame_longer ToTrack nid nid' dir dir' bits t e = frame_more ToTrack nid nid' dir' bits t e

-- so what is begun of one is no frame
short_frame : (way : Way) (r : Reading) (nid dir bits : ℕ) (t : Reading) → BegunFrame way r → r ≡ in_frame way nid dir bits t → ⊥
short_frame way r nid dir bits t (inl none) e = let two : ◌≡◌ {A = Reading} [] (in_frame way nid dir bits t) = sym none ∙ e in absurd cc
short_frame way r nid dir bits t (inr (inl (nid', one))) e = frame_more way nid' nid dir bits t (sym one ∙ e)
short_frame way r nid dir bits t (inr (inr (nid', dir', both))) e = frame_longer way nid' nid dir' dir bits t (sym both ∙ e)

short_marked : (r : Reading) (n : ℕ) (q : Reading) → BegunFrame ToTrain r → r ≡ (NID_PACKET, 0) ∷ (NID_VBCMK, n) ∷ q → ⊥
short_marked r n q (inl none) e = let two : ◌≡◌ {A = Reading} [] ((NID_PACKET, 0) ∷ (NID_VBCMK, n) ∷ q) = sym none ∙ e in absurd cc
short_marked r n q (inr (inl (nid, one))) e = let two = sent_parts NID_PACKET NID_PACKET nid 0 [] ((NID_VBCMK, n) ∷ q) (sym one ∙ e) in let three = two.2 in absurd cc
short_marked r n q (inr (inr (nid, dir, both))) e =
    let (v1, n1, r1) = sent_parts NID_PACKET NID_PACKET nid 0 ((Q_DIR, dir) ∷ []) ((NID_VBCMK, n) ∷ q) (sym both ∙ e) in
    let (v2, n2, r2) = sent_parts Q_DIR NID_VBCMK dir n [] q r1 in
    absurd cc

-- at most two variables
short_unpacked : (way : Way) (r : Reading) → BegunFrame way r → NoPacket way r
short_unpacked ToTrain r b (packets.marker n) q h e = short_marked r n q b e
short_unpacked ToTrack r b (packets.marker n) q h e = absurd cc
short_unpacked way r b (packets.typed nid dir x) q h e = short_frame way r nid dir (length (spelled x)) (x ++ q) b (e ∙ in_frame-append way nid dir (length (spelled x)) x q)
short_unpacked way r b (packets.kept nid dir k) q h e = short_frame way r nid dir (length k) (kept OTHER_DATA k ++ q) b (e ∙ in_frame-append way nid dir (length k) (kept OTHER_DATA k) q)

-- what is begun is no packet
pub begun_unpacked : (way : Way) (r : Reading) (f : List ℕ) (k : List Bool) → Begun way r f k → NoPacket way r
begun_unpacked way r f k (inl (b, e, e')) = short_unpacked way r b
begun_unpacked way r f k (inr (inl ((nid, dir, n, q, is, same, less, typed), e))) = λ v t h s. framed_unpacked way nid dir n q less v t h (sym is ∙ s)
begun_unpacked way r f k (inr (inr ((nid, dir, n, is, less, other), e))) = λ v t h s. framed_unpacked way nid dir n (kept OTHER_DATA k) (omega (arith, less, length-kept k)) v t h (sym is ∙ s)

-- ---- What is begun is known by its variables.

-- no number is typed and kept
typed_kept : (way : Way) (nid nid' : ℕ) → nid ≡ nid' → IsTrue (is_some (row_to way nid)) → IsTrue (is_kept way nid') → ⊥
typed_kept way nid nid' same typed other = by_row (row_to way nid) refl typed
  where
    by_row : (o : Option Layout) → row_to way nid ≡ o → IsTrue (is_some o) → ⊥
    by_row None e t = absurd cc
    by_row (Some row) e t = kept_untyped way nid' row other (ap (row_to way) (sym same) ∙ e)

rows_known : (way : Way) (r : Reading) (f g : List ℕ) → BegunRow way r f → BegunRow way r g → f ≡ g
rows_known way r f g (nid, dir, n, q, is, same, less, typed) (nid', dir', n', q', is', same', less', typed') =
    sym same ∙ ap numbers (frame_parts way nid nid' dir dir' n n' q q' (sym is ∙ is')).2 ∙ same'

kept_known : (way : Way) (r : Reading) (k l : List Bool) → BegunKept way r k → BegunKept way r l → k ≡ l
kept_known way r k l (nid, dir, n, is, less, other) (nid', dir', n', is', less', other') =
    bits_known OTHER_DATA k l (frame_parts way nid nid' dir dir' n n' (kept OTHER_DATA k) (kept OTHER_DATA l) (sym is ∙ is')).2

row_kept : (way : Way) (r : Reading) (f : List ℕ) (k : List Bool) → BegunRow way r f → BegunKept way r k → ⊥
row_kept way r f k (nid, dir, n, q, is, same, less, typed) (nid', dir', n', is', less', other) =
    typed_kept way nid nid' (frame_parts way nid nid' dir dir' n n' q (kept OTHER_DATA k) (sym is ∙ is')).0 typed other

pub begun_known : (way : Way) (r : Reading) (f g : List ℕ) (k l : List Bool) → Begun way r f k → Begun way r g l → (f ≡ g) × (k ≡ l)
begun_known way r f g k l (inl (b, e, i)) (inl (c, e', i')) = (e ∙ sym e', i ∙ sym i')
begun_known way r f g k l (inl (b, e, i)) (inr (inl ((nid, dir, n, q, is, c, d, w), i'))) = absurd (short_frame way r nid dir n q b is)
begun_known way r f g k l (inl (b, e, i)) (inr (inr ((nid, dir, n, is, c, d), e'))) = absurd (short_frame way r nid dir n (kept OTHER_DATA l) b is)
begun_known way r f g k l (inr (inl ((nid, dir, n, q, is, b, d, w), i))) (inl (c, e', i')) = absurd (short_frame way r nid dir n q c is)
begun_known way r f g k l (inr (inl (b, i))) (inr (inl (c, i'))) = (rows_known way r f g b c, i ∙ sym i')
begun_known way r f g k l (inr (inl (b, i))) (inr (inr (c, e'))) = absurd (row_kept way r f l b c)
begun_known way r f g k l (inr (inr ((nid, dir, n, is, b, d), e))) (inl (c, e', i')) = absurd (short_frame way r nid dir n (kept OTHER_DATA k) c is)
begun_known way r f g k l (inr (inr (b, e))) (inr (inl (c, i'))) = absurd (row_kept way r g k c b)
begun_known way r f g k l (inr (inr (b, e))) (inr (inr (c, e'))) = (e ∙ sym e', kept_known way r k l b c)
