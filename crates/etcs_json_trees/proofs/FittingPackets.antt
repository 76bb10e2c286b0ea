-- A packet's tree is one of those that are made of a line.
use Rattle.std.proofs.Common.{◌≡◌, ℕ, ◌+◌, ◌*◌, ◌≤◌, List, [], ◌∷◌, length, map, refl, sym, subst, arith}
use Rattle.serde_json.specs.Data.{Data, Items, no_items, item}
use Rattle.etcs_vars.specs.declared.var.Var.{Var}
use Rattle.etcs_vars.specs.declared.var.Var.TheVariants.{NID_RADIO, NID_VBCMK, NID_PACKET, Q_DIR, L_PACKET, OTHER_DATA}
use Rattle.etcs_vars.specs.Reading.{Reading, Sent, spelled}
use Rattle.etcs_vars.specs.Reading as sent
use Rattle.etcs_vars.proofs.Prefixes.{width_pos}
use Rattle.etcs_vars.proofs.Sent.{length-sent}
use Rattle.etcs_tables.specs.declared.row.Way.{Way}
use Rattle.etcs_tables.specs.declared.row.Way.TheVariants.{ToTrain, ToTrack}
use Rattle.etcs_tables.specs.Frames.{frame_bits}
use Rattle.etcs_packets.specs.PacketValues.{PacketValue, marker, typed, kept}
use Rattle.etcs_packets.specs.PacketReadings.{in_frame, reading_to, readings_to}
use Rattle.etcs_packets.proofs.PacketBits.{length-spelled}
use Rattle.etcs_json_trees.specs.declared.place.Place.TheVariants.{Packet, Pair, Scalar}
use Rattle.etcs_json_trees.specs.Fits.{weight, items_weight, HasShape, ItemsHaveShape}
use Rattle.etcs_json_trees.specs.Loose.{unnamed, stand_in}
use Rattle.etcs_json_trees.specs.TreeReading.{SaysNumber, IsPairTree, ArePairTrees, IsPacketTree, ArePacketTrees}

-- ---- Pairs.

says_scalar : (v : Var) (n : ℕ) (d : Data) → SaysNumber v n d → HasShape Scalar d × (weight d ≡ 1)
says_scalar NID_RADIO n d (text, is, digits) = subst (λ (x : Data). HasShape Scalar x × (weight x ≡ 1)) (sym is) (refl, refl)
says_scalar v n d is = subst (λ (x : Data). HasShape Scalar x × (weight x ≡ 1)) (sym is) (refl, refl)

pair_fits : (p : Sent) (d : Data) → IsPairTree p d → HasShape Pair d × (weight d ≡ 3)
pair_fits p d (x, is, says) =
    let number = says_scalar p.0 p.1 x says in
    subst (λ (y : Data). HasShape Pair y × (weight y ≡ 3)) (sym is) ((refl, (number.0, tt)), omega (arith, number.1))

-- three values for each pair
pub pairs_fit : (r : Reading) (ds : Items) → ArePairTrees r ds → ItemsHaveShape Pair ds × (items_weight ds ≡ 3 * length r)
pairs_fit [] no_items h = (tt, refl)
pairs_fit [] (item d ds) h = absurd h
pairs_fit (p ∷ r) no_items h = absurd h
pairs_fit (p ∷ r) (item d ds) h =
    let one = pair_fits p d h.0 in
    let more = pairs_fit r ds h.1 in
    ((one.0, more.0), omega (arith, one.1, more.1))

-- each variable has a bit
pub bits_least : (r : Reading) → length r ≤ length (spelled r)
bits_least [] = omega arith
bits_least (p ∷ r) = omega (arith, length-sent p.0 p.1 r, width_pos p.0, bits_least r)

-- ---- Packets.

framed_least : (way : Way) (nid dir n : ℕ) (r : Reading) → 21 + length (spelled r) ≤ length (spelled (in_frame way nid dir n r))
framed_least ToTrain nid dir n r =
    let frame = (L_PACKET, frame_bits ToTrain + n) ∷ r in
    omega (arith, length-sent NID_PACKET nid ((Q_DIR, dir) ∷ frame), length-sent Q_DIR dir frame, length-sent L_PACKET (frame_bits ToTrain + n) r)
framed_least ToTrack nid dir n r =
    omega (arith, length-sent NID_PACKET nid ((L_PACKET, frame_bits ToTrack + n) ∷ r), length-sent L_PACKET (frame_bits ToTrack + n) r)

-- how many bits the packet has
abbrev bits : Way → PacketValue → ℕ
bits way v = length (spelled (reading_to way (unnamed way v)))

abbrev FitsBits : ℕ → Data → Type 0
FitsBits n d = HasShape Packet d × (weight d ≤ 3 * n)

marker_bits : (n : ℕ) → length (spelled ((NID_PACKET, 0) ∷ (NID_VBCMK, n) ∷ [])) ≡ 14
marker_bits n = omega (arith, length-sent NID_PACKET 0 ((NID_VBCMK, n) ∷ []), length-sent NID_VBCMK n [])

packet_fits : (way : Way) (v : PacketValue) (d : Data) → bits way v ≤ 8184 → IsPacketTree way v d → FitsBits (bits way v) d
packet_fits way (marker n) d small (ps, is, pairs) =
    let fields = pairs_fit ((NID_VBCMK, n) ∷ []) ps pairs in
    subst (FitsBits (bits way (marker n))) (sym is) ((refl, ((fields.0, omega (arith, fields.1)), ((refl, omega arith), tt))), omega (arith, fields.1, marker_bits n))
packet_fits ToTrain (typed nid dir r) d small (ps, is, pairs) =
    let fields = pairs_fit r ps pairs in
    let least = framed_least ToTrain nid dir (length (spelled r)) r in
    let some = bits_least r in
    subst (FitsBits (bits ToTrain (typed nid dir r))) (sym is)
    ((refl, ((refl, omega arith), ((fields.0, omega (arith, fields.1, least, small, some)), ((refl, omega arith), tt)))), omega (arith, fields.1, least, some))
packet_fits ToTrack (typed nid dir r) d small (ps, is, pairs) =
    let fields = pairs_fit r ps pairs in
    let least = framed_least ToTrack nid dir (length (spelled r)) r in
    let some = bits_least r in
    subst (FitsBits (bits ToTrack (typed nid dir r))) (sym is)
    ((refl, ((fields.0, omega (arith, fields.1, least, small, some)), ((refl, omega arith), tt))), omega (arith, fields.1, least, some))
packet_fits ToTrain (kept nid dir b) d small is =
    let least = framed_least ToTrain (stand_in ToTrain nid) dir (length b) (sent.kept OTHER_DATA b) in
    subst (FitsBits (bits ToTrain (kept nid dir b))) (sym is) ((refl, ((refl, omega arith), ((refl, omega arith), ((refl, omega arith), tt)))), omega (arith, least))
packet_fits ToTrack (kept nid dir b) d small is =
    let least = framed_least ToTrack (stand_in ToTrack nid) dir (length b) (sent.kept OTHER_DATA b) in
    subst (FitsBits (bits ToTrack (kept nid dir b))) (sym is) ((refl, ((refl, omega arith), ((refl, omega arith), tt))), omega (arith, least))

unfoldable pub all_bits : Way → List PacketValue → ℕ
all_bits way vs = length (spelled (readings_to way (map (unnamed way) vs)))

one_more : (way : Way) (v : PacketValue) (vs : List PacketValue) → all_bits way (v ∷ vs) ≡ bits way v + all_bits way vs
unfolding all_bits
one_more way v vs = length-spelled (reading_to way (unnamed way v)) (readings_to way (map (unnamed way) vs))

pub packets_fit : (way : Way) (vs : List PacketValue) (ds : Items) → all_bits way vs ≤ 8184 → ArePacketTrees way vs ds → ItemsHaveShape Packet ds × (items_weight ds ≤ 3 * all_bits way vs)
packets_fit way [] no_items small h = (tt, omega arith)
packets_fit way [] (item d ds) small h = absurd h
packets_fit way (v ∷ vs) no_items small h = absurd h
packets_fit way (v ∷ vs) (item d ds) small h =
    let all = one_more way v vs in
    let one = packet_fits way v d (omega (arith, all, small)) h.0 in
    let more = packets_fit way vs ds (omega (arith, all, small)) h.1 in
    ((one.0, more.0), omega (arith, all, one.1, more.1))
