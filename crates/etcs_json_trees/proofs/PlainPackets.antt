-- The JSON of a packet is plain, and not deep.
use Rattle.std.proofs.Common.{◌≡◌, ℕ, zero, suc, ◌/◌, ◌%◌, ◌^◌, ◌+◌, ◌<◌, ◌≤◌, Bool, true, false, ◌&&◌, List, [], ◌∷◌, ◌++◌, map, refl, arith, inl, inr, nat_lt, ◌==◌}
use Rattle.std.specs.Prelude.{not}
use Rattle.std.proofs.Math.Nat.{pow-le-pow_right}
use Rattle.std.proofs.lemmas.Bool.{and_from, and_parts, cases_lt, le-ltb, lt-ltb, ne_eqb}
use Rattle.serde_json.specs.Data.{depth, items_depth}
use Rattle.serde_json.specs.View.{items_of}
use Rattle.etcs_vars.specs.declared.var.Var.{Var}
use Rattle.etcs_vars.specs.declared.var.Var.TheVariants.{Q_UPDOWN, NID_RADIO, NID_PACKET, NID_VBCMK, Q_DIR}
use Rattle.etcs_vars.specs.Vars.{name, width}
use Rattle.etcs_vars.specs.Reading.{Reading}
use Rattle.etcs_vars.proofs.Apart.{AllFit}
use Rattle.etcs_vars.proofs.Prefixes.{width-le}
use Rattle.etcs_tables.specs.declared.row.Way.{Way}
use Rattle.etcs_tables.specs.declared.row.Way.TheVariants.{ToTrain, ToTrack}
use Rattle.etcs_packets.specs.PacketValues.{PacketValue}
use Rattle.etcs_packets.specs.PacketValues as packet
use Rattle.etcs_packets.specs.PacketReadings.{reading_to, readings_to}
use Rattle.etcs_packet_text.specs.Show.{hex_digit, hex_digits, bit_digit}
use Rattle.etcs_packet_text.specs.Trees.{number_tree, pair_tree, packet_tree}
use Rattle.etcs_json_trees.proofs.PlainTexts.{is_plain, are_plain, IsPlain, ArePlain}

-- ---- Texts.

plain_from : (c : ℕ) → 34 < c → c < 127 → (c ≡ 92 → ⊥) → is_plain c ≡ true
plain_from c low high other = and_from (nat_lt 34 c && nat_lt c 127) (not (c == 92)) (and_from (nat_lt 34 c) (nat_lt c 127) (lt-ltb 34 c low) (lt-ltb c 127 high)) (rw (ne_eqb c 92 other) refl)

plain_append : (a b : List ℕ) → are_plain a ≡ true → are_plain b ≡ true → are_plain (a ++ b) ≡ true
plain_append [] b h k = k
plain_append (c ∷ a) b h k = let p = and_parts (is_plain c) (are_plain a) h in and_from (is_plain c) (are_plain (a ++ b)) p.0 (plain_append a b p.1 k)

hex_digit_plain : (d : ℕ) → d < 16 → is_plain (hex_digit d) ≡ true
hex_digit_plain d h = elim (cases_lt d 10) [
  | inl small ↦ rw (lt-ltb d 10 small) (plain_from (48 + d) (omega arith) (omega (arith, small)) (λ e. omega (arith, small, e)))
  | inr big ↦ rw (le-ltb d 10 big) (plain_from (87 + d) (omega arith) (omega (arith, h)) (λ e. omega (arith, e, big)))
]

hex_digits_plain : (count n : ℕ) → are_plain (hex_digits count n) ≡ true
hex_digits_plain zero n = refl
hex_digits_plain (suc count) n =
    plain_append (hex_digits count (n / 16)) (hex_digit (n % 16) ∷ []) (hex_digits_plain count (n / 16))
    (and_from (is_plain (hex_digit (n % 16))) true (hex_digit_plain (n % 16) (omega arith)) refl)

pub bits_plain : (bs : List Bool) → are_plain (map bit_digit bs) ≡ true
bits_plain [] = refl
bits_plain (true ∷ bs) = bits_plain bs
bits_plain (false ∷ bs) = bits_plain bs

name_plain : (v : Var) → are_plain (name v) ≡ true
name_plain Q_UPDOWN = refl
name_plain v = refl

-- ---- Variables.

number_plain : (v : Var) (n : ℕ) → n < 2 ^ 64 → IsPlain (number_tree v n)
number_plain NID_RADIO n h = hex_digits_plain 16 n
number_plain v n h = h

number_flat : (v : Var) (n : ℕ) → depth (number_tree v n) ≡ 0
number_flat NID_RADIO n = refl
number_flat v n = refl

pub small : (v : Var) (n : ℕ) → n < 2 ^ width v → n < 2 ^ 64
small v n h = let p : 2 ^ width v ≤ 2 ^ 64 = pow-le-pow_right {n = 2} (omega arith) (width-le v) in omega (arith, h, p)

pub pairs_plain : (r : Reading) → AllFit r → ArePlain (items_of (map pair_tree r))
pairs_plain [] h = tt
pairs_plain (p ∷ r) h = ((name_plain p.0, (number_plain p.0 p.1 (small p.0 p.1 h.0), tt)), pairs_plain r h.1)

pub pairs_flat : (r : Reading) → items_depth (items_of (map pair_tree r)) ≤ 1
pairs_flat [] = omega arith
pairs_flat (p ∷ r) = omega (arith, number_flat p.0 p.1, pairs_flat r)

-- ---- Packets.

packet_plain : (way : Way) (v : PacketValue) → AllFit (reading_to way v) → IsPlain (packet_tree way v)
packet_plain way (packet.marker n) h = ((refl, pairs_plain ((NID_VBCMK, n) ∷ []) h.1, (refl, omega arith, tt)), refl)
packet_plain ToTrain (packet.typed nid dir r) h = ((refl, small Q_DIR dir h.1.0, (refl, pairs_plain r h.1.1.1, (refl, small NID_PACKET nid h.0, tt))), refl)
packet_plain ToTrack (packet.typed nid dir r) h = ((refl, pairs_plain r h.1.1, (refl, small NID_PACKET nid h.0, tt)), refl)
packet_plain ToTrain (packet.kept nid dir b) h = ((refl, bits_plain b, (refl, small Q_DIR dir h.1.0, (refl, small NID_PACKET nid h.0, tt))), refl)
packet_plain ToTrack (packet.kept nid dir b) h = ((refl, bits_plain b, (refl, small NID_PACKET nid h.0, tt)), refl)

packet_flat : (way : Way) (v : PacketValue) → depth (packet_tree way v) ≤ 3
packet_flat way (packet.marker n) = omega (arith, pairs_flat ((NID_VBCMK, n) ∷ []))
packet_flat ToTrain (packet.typed nid dir r) = omega (arith, pairs_flat r)
packet_flat ToTrack (packet.typed nid dir r) = omega (arith, pairs_flat r)
packet_flat ToTrain (packet.kept nid dir b) = omega arith
packet_flat ToTrack (packet.kept nid dir b) = omega arith

pub fit_parts : (a b : Reading) → AllFit (a ++ b) → AllFit a × AllFit b
fit_parts [] b h = (tt, h)
fit_parts (p ∷ a) b h = let rest = fit_parts a b h.1 in ((h.0, rest.0), rest.1)

pub packets_plain : (way : Way) (vs : List PacketValue) → AllFit (readings_to way vs) → ArePlain (items_of (map (packet_tree way) vs))
packets_plain way [] h = tt
packets_plain way (v ∷ vs) h = let both = fit_parts (reading_to way v) (readings_to way vs) h in (packet_plain way v both.0, packets_plain way vs both.1)

pub packets_flat : (way : Way) (vs : List PacketValue) → items_depth (items_of (map (packet_tree way) vs)) ≤ 3
packets_flat way [] = omega arith
packets_flat way (v ∷ vs) = omega (arith, packet_flat way v, packets_flat way vs)
