-- A tree is that of one item alone, also where a packet that is typed by now is kept in it.
use Rattle.std.proofs.Common.{◌≡◌, ℕ, ◌+◌, ◌^◌, ◌<◌, Bool, List, [], ◌∷◌, map, length, Some, None, refl, sym, ap, ap₂, subst, ◌∙◌, arith, inl, inr}
use Rattle.std.specs.Prelude.{◌⊎◌, ◌≤◌, All, IsTrue}
use Rattle.std.proofs.lemmas.Bool.{cases_lt, eqb-true, le-ltb, lt-ltb}
use Rattle.std.proofs.lemmas.List.Elements.{All-head, All-tail}
use Rattle.serde_json.specs.Data.{Data, number, unsigned, string, array, Items, no_items, item}
use Rattle.etcs_vars.specs.declared.var.Var.{Var}
use Rattle.etcs_vars.specs.declared.var.Var.TheVariants.{NID_RADIO, NID_VBCMK}
use Rattle.etcs_vars.specs.Vars.{name, width}
use Rattle.etcs_vars.specs.Reading.{Reading, Sent}
use Rattle.etcs_vars.proofs.Apart.{Agree, AllFit}
use Rattle.etcs_tables.specs.declared.row.Way.{Way}
use Rattle.etcs_tables.specs.declared.row.Way.TheVariants.{ToTrain, ToTrack}
use Rattle.etcs_tables.specs.Frames.{is_direction, is_marker}
use Rattle.etcs_tables.specs.Layouts.{Layout, Reads}
use Rattle.etcs_tables.specs.Typed.{IsFramed}
use Rattle.etcs_rows.specs.laws.OneReading.{Reads-agree, Reads-fit}
use Rattle.etcs_flat.specs.Others.{other_fault}
use Rattle.etcs_packets.specs.PacketValues.{PacketValue, marker, typed, kept, IsPacketTo}
use Rattle.etcs_packet_text.specs.Show.{hex_digit, bit_digit}
use Rattle.etcs_packet_text.specs.Trees.{bits_tree}
use Rattle.etcs_json_trees.proofs.Frames.{marker_small}
use Rattle.etcs_json_trees.proofs.Frames as frames
use Rattle.etcs_json_trees.proofs.DigitLemmas.{one_hex}
use Rattle.etcs_bits.proofs.DigitTexts.{one_bits}
use Rattle.etcs_json_trees.specs.Loose.{stand_in, unnamed}
use Rattle.etcs_json_trees.specs.TreeParts.{SaysDirection}
use Rattle.etcs_json_trees.specs.TreeReading.{SaysNumber, IsPairTree, ArePairTrees, IsPairList, IsPacketTree, ArePacketTrees, IsPacketList, marker_tree, typed_tree, kept_tree, plain}

-- ---- Numbers.

pub digit_is : (d : ℕ) → d < 16 → ((d < 10) × (hex_digit d ≡ 48 + d)) ⊎ ((10 ≤ d) × (hex_digit d ≡ 87 + d))
digit_is d h = elim (cases_lt d 10) [
  | inl small ↦ inl (small, rw (lt-ltb d 10 small) refl)
  | inr big ↦ inr (big, rw (le-ltb d 10 big) refl)
]

number_same : (v : Var) (n m : ℕ) (d : Data) → n < 2 ^ width v → m < 2 ^ width v → SaysNumber v n d → SaysNumber v m d → n ≡ m
number_same NID_RADIO n m d h k (s, is, digits) (t, is', digits') =
    let both : string s ≡ string t = sym is ∙ is' in
    let same : t ≡ s = cc in
    one_hex 16 n m (omega (arith, h)) (omega (arith, k)) (sym digits ∙ rw same at digits')
number_same v n m d h k is is' = let both : number (unsigned n) ≡ number (unsigned m) = sym is ∙ is' in cc

-- ---- Variables.

pair_same : (p q : Sent) (d : Data) → p.0 ≡ q.0 → p.1 < 2 ^ width p.0 → q.1 < 2 ^ width q.0 → IsPairTree p d → IsPairTree q d → p ≡ q
pair_same (v, n) (w, m) d var h k (x, is, says) (y, is', says') =
    let both : array (item (string (name v)) (item x no_items)) ≡ array (item (string (name w)) (item y no_items)) = sym is ∙ is' in
    let same : y ≡ x = cc in
    let back : w ≡ v = sym var in
    let number = number_same v n m x h (rw back at k) says (rw (same, back) at says') in
    rw (back, number) refl

pub pairs_same : (r q : Reading) (ds : Items) → Agree r q → AllFit r → AllFit q → ArePairTrees r ds → ArePairTrees q ds → r ≡ q
pairs_same [] [] ds a h k x y = refl
pairs_same [] (q ∷ qs) ds a h k x y = absurd a
pairs_same (p ∷ ps) [] ds a h k x y = absurd a
pairs_same (p ∷ ps) (q ∷ qs) no_items a h k x y = absurd x
pairs_same (p ∷ ps) (q ∷ qs) (item d ds) a h k x y =
    let first = pair_same p q d a.0 h.0 k.0 x.0 y.0 in
    ap₂ (λ (s : Sent) (r : Reading). s ∷ r) first (pairs_same ps qs ds (a.1 first) h.1 k.1 x.1 y.1)

-- those of a row
pub row_same : (row : Layout) (r q : Reading) (ds : Items) → Reads row [] r → Reads row [] q → ArePairTrees r ds → ArePairTrees q ds → r ≡ q
row_same row r q ds x y = pairs_same r q ds (Reads-agree row [] r q x y) (Reads-fit row [] r x) (Reads-fit row [] q y)

pub list_same : (row : Layout) (r q : Reading) (d : Data) → Reads row [] r → Reads row [] q → IsPairList r d → IsPairList q d → r ≡ q
list_same row r q d x y (ds, is, h) (es, is', k) =
    let both : array es ≡ array ds = sym is' ∙ is in
    let same : es ≡ ds = cc in
    row_same row r q ds x y h (rw same at k)

-- ---- Bits.

pub bits_same : (b c : List Bool) → bits_tree b ≡ bits_tree c → b ≡ c
bits_same b c e = let same : map bit_digit b ≡ map bit_digit c = cc in one_bits b c same

-- ---- Packets.

-- the members of packets with one tree
pub typed_parts : (way : Way) (dir dir' : ℕ) (x y n m : Data) → SaysDirection way dir → SaysDirection way dir' → typed_tree way dir x n ≡ typed_tree way dir' y m → (dir ≡ dir') × (x ≡ y) × (n ≡ m)
typed_parts ToTrain dir dir' x y n m h k e = (cc, cc, cc)
typed_parts ToTrack dir dir' x y n m h k e = (h ∙ sym k, cc, cc)

pub kept_parts : (way : Way) (dir dir' : ℕ) (x y n m : Data) → SaysDirection way dir → SaysDirection way dir' → kept_tree way x dir n ≡ kept_tree way y dir' m → (dir ≡ dir') × (x ≡ y) × (n ≡ m)
kept_parts ToTrain dir dir' x y n m h k e = (cc, cc, cc)
kept_parts ToTrack dir dir' x y n m h k e = (h ∙ sym k, cc, cc)

-- packets of two kinds have no tree in common
pub typed_or_kept : (way : Way) (dir dir' : ℕ) (x y n m : Data) → typed_tree way dir x n ≡ kept_tree way y dir' m → ⊥
typed_or_kept ToTrain dir dir' x y n m e = absurd cc
typed_or_kept ToTrack dir dir' x y n m e = absurd cc

pub marker_or_typed : (way : Way) (marked dir : ℕ) (x y n m : Data) → IsTrue (is_marker way marked) → marker_tree x n ≡ typed_tree way dir y m → ⊥
marker_or_typed ToTrain marked dir x y n m h e = absurd cc
marker_or_typed ToTrack marked dir x y n m h e = absurd cc

says_direction : (way : Way) (dir : ℕ) → IsTrue (is_direction way dir) → SaysDirection way dir
says_direction ToTrain dir h = tt
says_direction ToTrack dir h = eqb-true dir 0 h

pub framed_says : (way : Way) (nid dir : ℕ) (r : Reading) → IsFramed way nid dir r → SaysDirection way dir
framed_says way nid dir r (row, e, directed, reads, short) = says_direction way dir directed

pub kept_says : (way : Way) (nid dir bits : ℕ) → other_fault way nid dir bits ≡ None → SaysDirection way dir
kept_says way nid dir bits h = says_direction way dir (frames.kept_parts way nid dir bits h).1

framed_same : (way : Way) (nid dir : ℕ) (r q : Reading) (ds : Items) → IsFramed way nid dir r → IsFramed way nid dir q → ArePairTrees r ds → ArePairTrees q ds → r ≡ q
framed_same way nid dir r q ds (row, e, directed, reads, short) (row', e', directed', reads', short') x y =
    let one : row' ≡ row = (let two : Some row' ≡ Some row = sym e' ∙ e in cc) in
    row_same row r q ds reads (subst (λ (l : Layout). Reads l [] q) one reads') x y

first_number : Reading → ℕ
first_number [] = 0
first_number (p ∷ r) = p.1

pub packet_same : (way : Way) (v w : PacketValue) (d : Data) → IsPacketTo way (unnamed way v) → IsPacketTo way (unnamed way w) → IsPacketTree way v d → IsPacketTree way w d → v ≡ w
unfolding first_number
packet_same way (marker n) (marker m) d h k (ps, is, x) (qs, is', y) =
    let same : qs ≡ ps = cc in
    ap (λ (r : Reading). marker (first_number r)) (pairs_same ((NID_VBCMK, n) ∷ []) ((NID_VBCMK, m) ∷ []) ps (refl, λ _. tt) (marker_small way n h, tt) (marker_small way m k, tt) x (rw same at y))
packet_same way (marker n) (typed nid dir r) d h k (ps, is, x) (qs, is', y) = absurd (marker_or_typed way n dir (array ps) (array qs) (plain 0) (plain nid) h (sym is ∙ is'))
packet_same way (marker n) (kept nid dir b) d h k (ps, is, x) is' = absurd cc
packet_same way (typed nid dir r) (marker n) d h k (ps, is, x) (qs, is', y) = absurd (marker_or_typed way n dir (array qs) (array ps) (plain 0) (plain nid) k (sym is' ∙ is))
packet_same way (typed nid dir r) (typed nid' dir' q) d h k (ps, is, x) (qs, is', y) =
    let parts = typed_parts way dir' dir (array qs) (array ps) (plain nid') (plain nid) (framed_says way nid' dir' q k) (framed_says way nid dir r h) (sym is' ∙ is) in
    let to : dir' ≡ dir = parts.0 in
    let lists : array qs ≡ array ps = parts.1 in
    let numbers : plain nid' ≡ plain nid = parts.2 in
    let same : qs ≡ ps = cc in
    let number : nid' ≡ nid = cc in
    let one = framed_same way nid dir r q ps h (rw (number, to) at k) x (rw same at y) in
    rw (number, to, one) refl
packet_same way (typed nid dir r) (kept nid' dir' b) d h k (ps, is, x) is' = absurd (typed_or_kept way dir dir' (array ps) (bits_tree b) (plain nid) (plain nid') (sym is ∙ is'))
packet_same way (kept nid dir b) (marker n) d h k is (qs, is', y) = absurd cc
packet_same way (kept nid dir b) (typed nid' dir' q) d h k is (qs, is', y) = absurd (typed_or_kept way dir' dir (array qs) (bits_tree b) (plain nid') (plain nid) (sym is' ∙ is))
packet_same way (kept nid dir b) (kept nid' dir' c) d h k is is' =
    let parts = kept_parts way dir' dir (bits_tree c) (bits_tree b) (plain nid') (plain nid) (kept_says way (stand_in way nid') dir' (length c) k) (kept_says way (stand_in way nid) dir (length b) h) (sym is' ∙ is) in
    let to : dir' ≡ dir = parts.0 in
    let numbers : plain nid' ≡ plain nid = parts.2 in
    let number : nid' ≡ nid = cc in
    rw (number, to, bits_same c b parts.1) refl

pub packets_same : (way : Way) (vs ws : List PacketValue) (ds : Items) → All (IsPacketTo way) (map (unnamed way) vs) → All (IsPacketTo way) (map (unnamed way) ws) → ArePacketTrees way vs ds → ArePacketTrees way ws ds → vs ≡ ws
packets_same way [] [] ds h k x y = refl
packets_same way [] (w ∷ ws) no_items h k x y = absurd y
packets_same way [] (w ∷ ws) (item d ds) h k x y = absurd x
packets_same way (v ∷ vs) [] no_items h k x y = absurd x
packets_same way (v ∷ vs) [] (item d ds) h k x y = absurd y
packets_same way (v ∷ vs) (w ∷ ws) no_items h k x y = absurd x
packets_same way (v ∷ vs) (w ∷ ws) (item d ds) h k x y =
    let first = packet_same way v w d (All-head (IsPacketTo way) (unnamed way v) (map (unnamed way) vs) h) (All-head (IsPacketTo way) (unnamed way w) (map (unnamed way) ws) k) x.0 y.0 in
    ap₂ (λ (p : PacketValue) (ps : List PacketValue). p ∷ ps) first (packets_same way vs ws ds (All-tail (IsPacketTo way) (unnamed way v) (map (unnamed way) vs) h) (All-tail (IsPacketTo way) (unnamed way w) (map (unnamed way) ws) k) x.1 y.1)

pub packet_list_same : (way : Way) (vs ws : List PacketValue) (d : Data) → All (IsPacketTo way) (map (unnamed way) vs) → All (IsPacketTo way) (map (unnamed way) ws) → IsPacketList way vs d → IsPacketList way ws d → vs ≡ ws
packet_list_same way vs ws d h k (ds, is, x) (es, is', y) =
    let both : array es ≡ array ds = sym is' ∙ is in
    let same : es ≡ ds = cc in
    packets_same way vs ws ds h k x (rw same at y)
