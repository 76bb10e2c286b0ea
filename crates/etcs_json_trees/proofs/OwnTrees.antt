-- The JSON of an item is a tree of it.
use Rattle.std.proofs.Common.{◌≡◌, ℕ, zero, suc, ◌+◌, ◌/◌, ◌%◌, ◌<◌, List, [], ◌∷◌, ◌++◌, map, refl, sym, ap, ap₂, ◌∙◌, arith, inl, inr}
use Rattle.std.proofs.lemmas.Bool.{le-leb, lt-leb}
use Rattle.std.proofs.lemmas.List.{map-append}
use Rattle.serde_json.specs.View.{items_of}
use Rattle.etcs_vars.specs.declared.var.Var.{Var}
use Rattle.etcs_vars.specs.declared.var.Var.TheVariants.{NID_RADIO, NID_VBCMK}
use Rattle.etcs_vars.specs.Reading.{Reading}
use Rattle.etcs_tables.specs.declared.row.Way.{Way}
use Rattle.etcs_packets.specs.PacketValues.{PacketValue, marker, typed, kept}
use Rattle.etcs_packet_text.specs.Show.{hex_digit, hex_digits}
use Rattle.etcs_packet_text.specs.Trees.{number_tree, pair_tree, packet_tree}
use Rattle.etcs_json_trees.proofs.OneTrees.{digit_is}
use Rattle.etcs_json_trees.specs.Digits.{lower}
use Rattle.etcs_json_trees.specs.TreeReading.{SaysNumber, ArePairTrees, IsPacketTree, ArePacketTrees}

lower_small : (c : ℕ) → c < 65 → lower c ≡ c
lower_small c h = rw (lt-leb 65 c h) refl

lower_big : (c : ℕ) → 70 < c → lower c ≡ c
lower_big c h = rw (le-leb 65 c (omega (arith, h)), lt-leb c 70 h) refl

digit_lower : (d : ℕ) → d < 16 → lower (hex_digit d) ≡ hex_digit d
digit_lower d h = elim (digit_is d h) [
  | inl p ↦ ap lower p.1 ∙ lower_small (48 + d) (omega (arith, p.0)) ∙ sym p.1
  | inr p ↦ ap lower p.1 ∙ lower_big (87 + d) (omega (arith, p.0)) ∙ sym p.1
]

digits_lower : (count n : ℕ) → map lower (hex_digits count n) ≡ hex_digits count n
digits_lower zero n = refl
digits_lower (suc count) n =
    map-append lower (hex_digits count (n / 16)) (hex_digit (n % 16) ∷ [])
    ∙ ap₂ (λ (a b : List ℕ). a ++ b) (digits_lower count (n / 16)) (ap (λ (c : ℕ). c ∷ []) (digit_lower (n % 16) (omega arith)))

says : (v : Var) (n : ℕ) → SaysNumber v n (number_tree v n)
says NID_RADIO n = (hex_digits 16 n, refl, digits_lower 16 n)
says v n = refl

pub pairs_own : (r : Reading) → ArePairTrees r (items_of (map pair_tree r))
pairs_own [] = tt
pairs_own (p ∷ r) = ((number_tree p.0 p.1, refl, says p.0 p.1), pairs_own r)

packet_own : (way : Way) (v : PacketValue) → IsPacketTree way v (packet_tree way v)
packet_own way (marker n) = (items_of (map pair_tree ((NID_VBCMK, n) ∷ [])), refl, pairs_own ((NID_VBCMK, n) ∷ []))
packet_own way (typed nid dir r) = (items_of (map pair_tree r), refl, pairs_own r)
packet_own way (kept nid dir b) = refl

pub packets_own : (way : Way) (vs : List PacketValue) → ArePacketTrees way vs (items_of (map (packet_tree way) vs))
packets_own way [] = tt
packets_own way (v ∷ vs) = (packet_own way v, packets_own way vs)
