-- Lemmas about specs/PacketReadings.antt.
use Rattle.std.proofs.Common.{◌≡◌, ℕ, ◌+◌, Bool, List, [], ◌∷◌, ◌++◌, length, refl, ap, ◌∙◌, arith}
use Rattle.std.specs.Prelude.{if◌then◌else◌}
use Rattle.etcs_vars.specs.declared.var.Var.TheVariants.{NID_PACKET, NID_VBCMK, Q_DIR, L_PACKET, OTHER_DATA}
use Rattle.etcs_vars.specs.Reading.{Reading, spelled}
use Rattle.etcs_vars.specs.Reading as sent
use Rattle.etcs_vars.proofs.Sent.{length-sent}
use Rattle.etcs_tables.specs.declared.row.Way.{Way}
use Rattle.etcs_tables.specs.declared.row.Way.TheVariants.{ToTrain, ToTrack}
use Rattle.etcs_tables.specs.Frames.{frame_bits, head_bits, directed}
use Rattle.etcs_packets.specs.PacketValues.{PacketValue, marker, typed, kept, bits_to, bits_of}
use Rattle.etcs_packets.specs.PacketReadings.{in_frame, reading_to, frame, packet_reading}
use Rattle.etcs_packets.specs.Sending.{front_to, rest_after}

-- ---- Frames.

-- a frame is what comes before L_PACKET, and L_PACKET
pub frame_is : (way : Way) → frame_bits way ≡ head_bits way + 13
frame_is ToTrain = refl
frame_is ToTrack = refl

pub length-directed : (way : Way) (dir : ℕ) (r : Reading) → 8 + length (spelled (directed way dir r)) ≡ head_bits way + length (spelled r)
length-directed ToTrain dir r = omega (arith, length-sent Q_DIR dir r)
length-directed ToTrack dir r = refl

pub directed-append : (way : Way) (dir : ℕ) (r q : Reading) → directed way dir r ++ q ≡ directed way dir (r ++ q)
directed-append ToTrain dir r q = refl
directed-append ToTrack dir r q = refl

pub in_frame-append : (way : Way) (nid dir bits : ℕ) (r q : Reading) → in_frame way nid dir bits r ++ q ≡ in_frame way nid dir bits (r ++ q)
in_frame-append way nid dir bits r q = ap (λ (t : Reading). (NID_PACKET, nid) ∷ t) (directed-append way dir ((L_PACKET, frame_bits way + bits) ∷ r) q)

pub length-in_frame : (way : Way) (nid dir bits : ℕ) (r : Reading) → length (spelled (in_frame way nid dir bits r)) ≡ frame_bits way + length (spelled r)
length-in_frame way nid dir bits r =
    let after : Reading = (L_PACKET, frame_bits way + bits) ∷ r in
    let l1 = length-sent NID_PACKET nid (directed way dir after) in
    let l2 = length-directed way dir after in
    let l3 = length-sent L_PACKET (frame_bits way + bits) r in
    omega (arith, l1, l2, l3, frame_is way)

-- ---- Its bits.

pub length-kept : (b : List Bool) → length (spelled (sent.kept OTHER_DATA b)) ≡ length b
length-kept [] = refl
length-kept (c ∷ b) = let l = length-sent OTHER_DATA (if c then 1 else 0) (sent.kept OTHER_DATA b) in omega (arith, l, length-kept b)

-- as many bits as its length
pub bits_are : (way : Way) (v : PacketValue) → length (spelled (reading_to way v)) ≡ bits_to way v
bits_are way (marker n) =
    let l1 = length-sent NID_PACKET 0 ((NID_VBCMK, n) ∷ []) in
    let l2 = length-sent NID_VBCMK n [] in
    omega (arith, l1, l2)
bits_are way (typed nid dir r) = length-in_frame way nid dir (length (spelled r)) r
bits_are way (kept nid dir b) = length-in_frame way nid dir (length b) (sent.kept OTHER_DATA b) ∙ ap (λ (k : ℕ). frame_bits way + k) (length-kept b)

pub packet_bits : (v : PacketValue) → length (spelled (packet_reading v)) ≡ bits_of v
packet_bits v = bits_are ToTrain v

-- ---- Its front, and what follows.

pub front_and_rest : (way : Way) (v : PacketValue) → reading_to way v ≡ front_to way v ++ rest_after v
front_and_rest ToTrain (marker n) = refl
front_and_rest ToTrain (typed nid dir r) = refl
front_and_rest ToTrain (kept nid dir b) = refl
front_and_rest ToTrack (marker n) = refl
front_and_rest ToTrack (typed nid dir r) = refl
front_and_rest ToTrack (kept nid dir b) = refl
