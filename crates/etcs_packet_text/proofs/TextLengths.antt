-- How long the text of variables and packets can be.
use Rattle.std.proofs.Common.{◌≡◌, ℕ, zero, suc, ◌+◌, ◌*◌, ◌^◌, ◌<◌, ◌≤◌, Bool, true, false, List, [], ◌∷◌, ◌++◌, length, flat_map, map, refl, ap, ◌∙◌, arith, decimal}
use Rattle.std.specs.Prelude.{codes, if◌then◌else◌, nat_lt, ◌-◌, ◌/◌, ◌%◌}
use Rattle.std.proofs.Math.Nat.{pow-le-pow_right}
use Rattle.std.proofs.lemmas.List.{length-append, length-map}
use Rattle.std.proofs.lemmas.Fmt.{length-decimal-le}
use Rattle.json.specs.Print.{escape, escape_byte, quoted}
use Rattle.serde_json.specs.View.{items_of}
use Rattle.serde_json.specs.Written.{comma_if, compact_text, items_text}
use Rattle.etcs_bits.specs.Bits.{num}
use Rattle.etcs_bits.proofs.Numbers.{length-num}
use Rattle.etcs_vars.specs.declared.var.Var.{Var}
use Rattle.etcs_vars.specs.declared.var.Var.TheVariants.{Q_UPDOWN, NID_PACKET, Q_DIR, L_PACKET, NID_VBCMK, NID_RADIO, D_REF, OTHER_DATA}
use Rattle.etcs_vars.specs.Vars.{name, special, width}
use Rattle.etcs_vars.specs.Reading.{Reading, Sent, spelled, kept}
use Rattle.etcs_vars.proofs.Prefixes.{width-le, width_pos}
use Rattle.etcs_vars.proofs.Apart.{AllFit}
use Rattle.etcs_vars.specs.laws.Spellings.{spelled-append}
use Rattle.etcs_packets.specs.PacketValues.{PacketValue, nid_of}
use Rattle.etcs_packets.specs.PacketValues as packet
use Rattle.etcs_packets.specs.PacketReadings.{reading_to, readings_to}
use Rattle.etcs_packets.specs.laws.PacketReadings.{bits_are}
use Rattle.etcs_tables.specs.declared.row.Way.{Way}
use Rattle.etcs_tables.specs.declared.row.Way.TheVariants.{ToTrain, ToTrack}
use Rattle.etcs_tables.specs.Frames.{frame_bits, directed}
use Rattle.etcs_packet_text.specs.Packets.{packet_line, frame_lines, body_lines, packet_text, packets_text}
use Rattle.etcs_packet_text.proofs.PlainTexts.{plain_bits, plain_hex}
use Rattle.etcs_packet_text.specs.Trees.{number_tree, packet_tree, packets_tree, pair_tree, pairs_tree}
use Rattle.etcs_packet_text.specs.Show.{variable_line, number_text, special_text, signed_text, hex_digit, hex_digits, bit_digit, bits_text, bits_line}

-- ---- A variable.

hex_long : (count n : ℕ) → length (hex_digits count n) ≡ count
hex_long zero n = refl
hex_long (suc count) n = length-append (hex_digits count (n / 16)) (hex_digit (n % 16) ∷ []) ∙ omega (arith, hex_long count (n / 16))

pub decimal_short : (n : ℕ) → n < 2 ^ 64 → length (decimal n) ≤ 20
decimal_short n h = length-decimal-le 20 n (omega arith) (omega (arith, h)) h

with_sign : (b : Bool) (x y : List ℕ) → length x ≤ 20 → length y ≤ 20 → length (if b then x else codes "-" ++ y) ≤ 21
with_sign true x y h k = omega (arith, h)
with_sign false x y h k = let l = length-append (codes "-") y in omega (arith, l, k)

signed_short : (n : ℕ) → length (decimal n) ≤ 20 → length (signed_text n) ≤ 21
signed_short n h = with_sign (nat_lt n 32768) (decimal n) (decimal (65536 - n)) h (decimal_short (65536 - n) (omega arith))

name_short : (v : Var) → length (name v) ≤ 21
name_short Q_UPDOWN = omega arith
name_short v = omega arith

number_short : (v : Var) (n : ℕ) → length (decimal n) ≤ 20 → length (number_text v n) ≤ 21
number_short NID_RADIO n h = omega (arith, hex_long 16 n)
number_short D_REF n h = signed_short n h
number_short v n h = omega (arith, h)

special_short : (v : Var) (n : ℕ) → length (special_text (special v n)) ≤ 22
special_short Q_UPDOWN n = omega arith
special_short v n = grind arith

-- what follows its two blanks, but for the blank and the LF
parts_short : (v : Var) (n : ℕ) → length (decimal n) ≤ 20 → length (name v) + (length (number_text v n) + length (special_text (special v n))) ≤ 64
parts_short v n h = omega (arith, name_short v, number_short v n h, special_short v n)

pub small_number : (v : Var) (n : ℕ) → n < 2 ^ width v → n < 2 ^ 64
small_number v n h = let le = pow-le-pow_right {n = 2} (omega arith) (width-le v) in omega (arith, h, le)

line_long : (a b c : List ℕ) → length (codes "  " ++ a ++ codes " " ++ b ++ c ++ codes "\n") ≡ 4 + (length a + (length b + length c))
line_long a b c =
    let v = length-append (codes "  " ++ a ++ codes " " ++ b ++ c) (codes "\n") in
    let w = length-append (codes "  " ++ a ++ codes " " ++ b) c in
    let x = length-append (codes "  " ++ a ++ codes " ") b in
    let y = length-append (codes "  " ++ a) (codes " ") in
    let z = length-append (codes "  ") a in
    omega (arith, v, w, x, y, z)

pub variable_short : (p : Sent) → p.1 < 2 ^ width p.0 → length (variable_line p) ≤ 128
variable_short (v, n) h =
    let d = parts_short v n (decimal_short n (small_number v n h)) in
    let l = line_long (name v) (number_text v n) (special_text (special v n)) in
    omega (arith, l, d)

pub length-sent : (v : Var) (n : ℕ) (r : Reading) → length (spelled ((v, n) ∷ r)) ≡ width v + length (spelled r)
length-sent v n r = let a = length-append (num (width v) n) (spelled r) in omega (arith, a, length-num (width v) n)

pub variables_short : (r : Reading) → AllFit r → length (flat_map variable_line r) ≤ 128 * length (spelled r)
variables_short [] h = omega arith
variables_short ((v, n) ∷ r) h =
    let a = length-append (variable_line (v, n)) (flat_map variable_line r) in
    omega (arith, a, variable_short (v, n) h.0, variables_short r h.1, length-sent v n r, width_pos v)

bits_short : (bs : List Bool) → length (bits_text bs) ≤ 1 + length bs
bits_short [] = omega arith
bits_short (b ∷ bs) = let m = length-map (b ∷ bs) bit_digit in omega (arith, m)

pub line_short : (text : List ℕ) (bs : List Bool) → length bs < 2 ^ 64 → length text ≤ 24 → length (bits_line text bs) ≤ 64 + length bs
line_short text bs small h =
    let d = decimal_short (length bs) small in
    let l = line_long text (decimal (length bs)) (bits_text bs) in
    omega (arith, l, d, h, bits_short bs)

-- ---- Packets.

number_line_short : (nid : ℕ) → nid < 2 ^ 64 → length (packet_line nid) ≤ 28
number_line_short nid h =
    let v = length-append (codes "packet " ++ decimal nid) (codes "\n") in
    let w = length-append (codes "packet ") (decimal nid) in
    omega (arith, v, w, decimal_short nid h)

packet_long : (way : Way) (v : PacketValue) → length (packet_text way v) ≡ length (packet_line (nid_of v)) + length (frame_lines way v) + length (body_lines v)
packet_long way v =
    let a = length-append (packet_line (nid_of v) ++ frame_lines way v) (body_lines v) in
    let b = length-append (packet_line (nid_of v)) (frame_lines way v) in
    omega (arith, a, b)

frame_wide : (way : Way) → 21 ≤ frame_bits way
frame_wide ToTrain = omega arith
frame_wide ToTrack = omega arith

frame_short : (way : Way) (dir bits : ℕ) (r : Reading) → AllFit (directed way dir ((L_PACKET, bits) ∷ r)) → length (flat_map variable_line (directed way dir ((L_PACKET, bits) ∷ []))) ≤ 256
frame_short ToTrain dir bits r h =
    let l = length-append (variable_line (Q_DIR, dir)) (variable_line (L_PACKET, bits) ++ []) in
    let k = length-append (variable_line (L_PACKET, bits)) [] in
    omega (arith, l, k, variable_short (Q_DIR, dir) h.0, variable_short (L_PACKET, bits) h.1.0)
frame_short ToTrack dir bits r h =
    let k = length-append (variable_line (L_PACKET, bits)) [] in
    omega (arith, k, variable_short (L_PACKET, bits) h.0)

-- L_PACKET and what follows it
after_frame : (way : Way) (dir bits : ℕ) (r : Reading) → AllFit (directed way dir ((L_PACKET, bits) ∷ r)) → (bits < 2 ^ width L_PACKET) × AllFit r
after_frame ToTrain dir bits r h = h.1
after_frame ToTrack dir bits r h = h

packet_short : (way : Way) (v : PacketValue) → AllFit (reading_to way v) → length (packet_text way v) ≤ 128 * length (spelled (reading_to way v))
packet_short way (packet.marker n) h =
    let l = packet_long way (packet.marker n) in
    let b = bits_are way (packet.marker n) in
    omega (arith, l, b, number_line_short 0 (omega arith), variable_short (NID_VBCMK, n) h.1.0)
packet_short way (packet.typed nid dir r) h =
    let bits = frame_bits way + length (spelled r) in
    let l = packet_long way (packet.typed nid dir r) in
    let b = bits_are way (packet.typed nid dir r) in
    let f = frame_short way dir bits r h.1 in
    let n = number_line_short nid (small_number NID_PACKET nid h.0) in
    let rest = after_frame way dir bits r h.1 in
    omega (arith, l, b, f, n, frame_wide way, variables_short r rest.1)
packet_short way (packet.kept nid dir bs) h =
    let bits = frame_bits way + length bs in
    let l = packet_long way (packet.kept nid dir bs) in
    let b = bits_are way (packet.kept nid dir bs) in
    let f = frame_short way dir bits (kept OTHER_DATA bs) h.1 in
    let n = number_line_short nid (small_number NID_PACKET nid h.0) in
    let rest = after_frame way dir bits (kept OTHER_DATA bs) h.1 in
    let small : bits < 2 ^ 64 = small_number L_PACKET bits rest.0 in
    let k = line_short (codes "OTHER_DATA") bs (omega (arith, small)) (omega arith) in
    omega (arith, l, b, f, n, frame_wide way, k)

pub fit_front : (a b : Reading) → AllFit (a ++ b) → AllFit a
fit_front [] b h = tt
fit_front (p ∷ a) b h = (h.0, fit_front a b h.1)

pub fit_after : (a b : Reading) → AllFit (a ++ b) → AllFit b
fit_after [] b h = h
fit_after (p ∷ a) b h = fit_after a b h.1

pub spelled_long : (a b : Reading) → length (spelled (a ++ b)) ≡ length (spelled a) + length (spelled b)
spelled_long a b = ap length (spelled-append a b) ∙ length-append (spelled a) (spelled b)

pub packets_short : (way : Way) (vs : List PacketValue) → AllFit (readings_to way vs) → length (packets_text way vs) ≤ 128 * length (spelled (readings_to way vs))
packets_short way [] h = omega arith
packets_short way (v ∷ vs) h =
    let first = packet_short way v (fit_front (reading_to way v) (readings_to way vs) h) in
    let rest = packets_short way vs (fit_after (reading_to way v) (readings_to way vs) h) in
    let l = length-append (packet_text way v) (packets_text way vs) in
    let b = spelled_long (reading_to way v) (readings_to way vs) in
    omega (arith, first, rest, l, b)

-- ---- JSON.

comma_short : (b : Bool) → length (comma_if b) ≤ 1
comma_short true = omega arith
comma_short false = omega arith

radio_long : (count n : ℕ) → length (quoted (hex_digits count n)) ≡ 2 + count
radio_long count n =
    let l = length-append (escape (hex_digits count n)) (34 ∷ []) in
    let e = ap length (plain_hex count n) in
    omega (arith, l, e, hex_long count n)

pub digits_long : (bs : List Bool) → length (quoted (map bit_digit bs)) ≡ 2 + length bs
digits_long bs =
    let l = length-append (escape (map bit_digit bs)) (34 ∷ []) in
    let e = ap length (plain_bits bs) in
    omega (arith, l, e, length-map bs bit_digit)

-- texts one after another
abbrev pub joined : List (List ℕ) → List ℕ
joined [] = []
joined (x ∷ xs) = x ++ joined xs

abbrev pub total : List (List ℕ) → ℕ
total [] = 0
total (x ∷ xs) = length x + total xs

pub joined_long : (xs : List (List ℕ)) → length (joined xs) ≡ total xs
joined_long [] = refl
joined_long (x ∷ xs) = omega (arith, length-append x (joined xs), joined_long xs)

name_json_short : (v : Var) → length (escape (name v)) ≤ 21
unfolding escape_byte
name_json_short Q_UPDOWN = omega arith
name_json_short v = omega arith

number_json_short : (v : Var) (n : ℕ) → length (decimal n) ≤ 20 → length (compact_text (number_tree v n)) ≤ 20
number_json_short NID_RADIO n h = omega (arith, radio_long 16 n)
number_json_short v n h = omega (arith, h)

-- a name and a number, but for the quotes of the name
named_short : (v : Var) (n : ℕ) → length (decimal n) ≤ 20 → length (escape (name v)) + length (compact_text (number_tree v n)) ≤ 41
named_short v n h = omega (arith, name_json_short v, number_json_short v n h)

pair_json_short : (p : Sent) → p.1 < 2 ^ width p.0 → length (compact_text (pair_tree p)) ≤ 49
pair_json_short (v, n) h =
    let same = length-append (escape (name v)) (34 ∷ []) in
    let whole = length-append (escape (name v) ++ 34 ∷ []) (44 ∷ (compact_text (number_tree v n) ++ 93 ∷ [])) in
    let beyond = length-append (compact_text (number_tree v n)) (93 ∷ []) in
    omega (arith, same, whole, beyond, named_short v n (decimal_short n (small_number v n h)))

pair_items_short : (later : Bool) (r : Reading) → AllFit r → length (items_text later (items_of (map pair_tree r))) ≤ 64 * length (spelled r) + 1
pair_items_short later [] h = omega arith
pair_items_short later ((v, n) ∷ r) h =
    let rest = items_text true (items_of (map pair_tree r)) in
    let a = length-append (comma_if later) (compact_text (pair_tree (v, n)) ++ rest) in
    let b = length-append (compact_text (pair_tree (v, n))) rest in
    omega (arith, a, b, comma_short later, pair_json_short (v, n) h.0, pair_items_short true r h.1, length-sent v n r, width_pos v)

pub pairs_json_short : (r : Reading) → AllFit r → length (compact_text (pairs_tree r)) ≤ 64 * length (spelled r) + 2
pairs_json_short r h = omega (arith, pair_items_short false r h)

-- with a comma
packet_json_short : (way : Way) (v : PacketValue) → AllFit (reading_to way v) → length (compact_text (packet_tree way v)) + 1 ≤ 64 * length (spelled (reading_to way v))
unfolding escape_byte
packet_json_short way (packet.marker n) h =
    let r = (NID_VBCMK, n) ∷ [] in
    let l : length (compact_text (packet_tree way (packet.marker n))) ≡ total (codes "{\"fields\":" ∷ compact_text (pairs_tree r) ∷ codes ",\"nid\":" ∷ decimal 0 ∷ codes "}" ∷ []) = joined_long (codes "{\"fields\":" ∷ compact_text (pairs_tree r) ∷ codes ",\"nid\":" ∷ decimal 0 ∷ codes "}" ∷ []) in
    let b = bits_are way (packet.marker n) in
    omega (arith, l, b, pairs_json_short r (h.1.0, tt), length-sent NID_VBCMK n [], decimal_short 0 (omega arith))
packet_json_short ToTrain (packet.typed nid dir r) h =
    let l : length (compact_text (packet_tree ToTrain (packet.typed nid dir r))) ≡ total (codes "{\"dir\":" ∷ decimal dir ∷ codes ",\"fields\":" ∷ compact_text (pairs_tree r) ∷ codes ",\"nid\":" ∷ decimal nid ∷ codes "}" ∷ []) = joined_long (codes "{\"dir\":" ∷ decimal dir ∷ codes ",\"fields\":" ∷ compact_text (pairs_tree r) ∷ codes ",\"nid\":" ∷ decimal nid ∷ codes "}" ∷ []) in
    let b = bits_are ToTrain (packet.typed nid dir r) in
    omega (arith, l, b, pairs_json_short r h.1.1.1, decimal_short dir (small_number Q_DIR dir h.1.0), decimal_short nid (small_number NID_PACKET nid h.0))
packet_json_short ToTrack (packet.typed nid dir r) h =
    let l : length (compact_text (packet_tree ToTrack (packet.typed nid dir r))) ≡ total (codes "{\"fields\":" ∷ compact_text (pairs_tree r) ∷ codes ",\"nid\":" ∷ decimal nid ∷ codes "}" ∷ []) = joined_long (codes "{\"fields\":" ∷ compact_text (pairs_tree r) ∷ codes ",\"nid\":" ∷ decimal nid ∷ codes "}" ∷ []) in
    let b = bits_are ToTrack (packet.typed nid dir r) in
    omega (arith, l, b, pairs_json_short r h.1.1, decimal_short nid (small_number NID_PACKET nid h.0))
packet_json_short ToTrain (packet.kept nid dir bs) h =
    let l : length (compact_text (packet_tree ToTrain (packet.kept nid dir bs))) ≡ total (codes "{\"data\":" ∷ quoted (map bit_digit bs) ∷ codes ",\"dir\":" ∷ decimal dir ∷ codes ",\"nid\":" ∷ decimal nid ∷ codes "}" ∷ []) = joined_long (codes "{\"data\":" ∷ quoted (map bit_digit bs) ∷ codes ",\"dir\":" ∷ decimal dir ∷ codes ",\"nid\":" ∷ decimal nid ∷ codes "}" ∷ []) in
    let b = bits_are ToTrain (packet.kept nid dir bs) in
    omega (arith, l, b, digits_long bs, decimal_short dir (small_number Q_DIR dir h.1.0), decimal_short nid (small_number NID_PACKET nid h.0))
packet_json_short ToTrack (packet.kept nid dir bs) h =
    let l : length (compact_text (packet_tree ToTrack (packet.kept nid dir bs))) ≡ total (codes "{\"data\":" ∷ quoted (map bit_digit bs) ∷ codes ",\"nid\":" ∷ decimal nid ∷ codes "}" ∷ []) = joined_long (codes "{\"data\":" ∷ quoted (map bit_digit bs) ∷ codes ",\"nid\":" ∷ decimal nid ∷ codes "}" ∷ []) in
    let b = bits_are ToTrack (packet.kept nid dir bs) in
    omega (arith, l, b, digits_long bs, decimal_short nid (small_number NID_PACKET nid h.0))

packet_items_short : (way : Way) (later : Bool) (vs : List PacketValue) → AllFit (readings_to way vs) → length (items_text later (items_of (map (packet_tree way) vs))) ≤ 64 * length (spelled (readings_to way vs)) + 1
packet_items_short way later [] h = omega arith
packet_items_short way later (v ∷ vs) h =
    let rest = items_text true (items_of (map (packet_tree way) vs)) in
    let a = length-append (comma_if later) (compact_text (packet_tree way v) ++ rest) in
    let b = length-append (compact_text (packet_tree way v)) rest in
    let first = packet_json_short way v (fit_front (reading_to way v) (readings_to way vs) h) in
    let more = packet_items_short way true vs (fit_after (reading_to way v) (readings_to way vs) h) in
    omega (arith, a, b, comma_short later, first, more, spelled_long (reading_to way v) (readings_to way vs))

pub packets_json_short : (way : Way) (vs : List PacketValue) → AllFit (readings_to way vs) → length (compact_text (packets_tree way vs)) ≤ 64 * length (spelled (readings_to way vs)) + 2
packets_json_short way vs h = omega (arith, packet_items_short way false vs h)
