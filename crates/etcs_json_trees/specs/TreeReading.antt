-- Which trees packets have when JSON is read: the digits of NID_RADIO may be in either case.
use Rattle.std.specs.Prelude.{◌≡◌, ℕ, List, [], ◌∷◌, map, codes}
use Rattle.serde_json.specs.Data.{Data, number, unsigned, string, array, object, Items, no_items, item, no_members, member}
use Rattle.etcs_json_trees.specs.Digits.{lower}
use Rattle.etcs_vars.specs.declared.var.Var.{Var}
use Rattle.etcs_vars.specs.declared.var.Var.TheVariants.{NID_RADIO, NID_VBCMK}
use Rattle.etcs_vars.specs.Vars.{name}
use Rattle.etcs_vars.specs.Reading.{Reading, Sent}
use Rattle.etcs_tables.specs.declared.row.Way.{Way}
use Rattle.etcs_packets.specs.PacketValues.{PacketValue, marker, typed, kept}
use Rattle.etcs_packet_text.specs.Show.{hex_digits}
use Rattle.etcs_packet_text.specs.Trees.{bits_tree, with_dir}

-- the whole number n, without fraction or exponent
abbrev pub plain : ℕ → Data
plain n = number (unsigned n)

-- d is the number n of the variable: for NID_RADIO a text of sixteen hexadecimal digits of either case, else the whole
-- number without fraction or exponent
abbrev pub SaysNumber : Var → ℕ → Data → Type 0
SaysNumber NID_RADIO n d = (text : List ℕ) × (d ≡ string text) × (map lower text ≡ hex_digits 16 n)
SaysNumber v n d = d ≡ plain n

-- d is the pair of a variable: a list of its name and its number
abbrev pub IsPairTree : Sent → Data → Type 0
IsPairTree p d = (x : Data) × (d ≡ array (item (string (name p.0)) (item x no_items))) × SaysNumber p.0 p.1 x

-- the values are the pairs of the reading's variables, in order
abbrev pub ArePairTrees : Reading → Items → Type 0
ArePairTrees [] no_items = Unit {0}
ArePairTrees [] (item d ds) = ⊥
ArePairTrees (p ∷ r) no_items = ⊥
ArePairTrees (p ∷ r) (item d ds) = IsPairTree p d × ArePairTrees r ds

-- d is the list of the pairs of the reading's variables
abbrev pub IsPairList : Reading → Data → Type 0
IsPairList r d = (ps : Items) × (d ≡ array ps) × ArePairTrees r ps

-- the object of packet 0 to the train, which has no direction
abbrev pub marker_tree : Data → Data → Data
marker_tree fields nid = object (member (codes "fields") fields (member (codes "nid") nid no_members))

-- the object of a typed packet: to the track without a member for its direction
abbrev pub typed_tree : Way → ℕ → Data → Data → Data
typed_tree way dir fields nid = object (with_dir way dir (member (codes "fields") fields (member (codes "nid") nid no_members)))

-- the object of a packet that is kept as bits, likewise
abbrev pub kept_tree : Way → Data → ℕ → Data → Data
kept_tree way data' dir nid = object (member (codes "data") data' (with_dir way dir (member (codes "nid") nid no_members)))

-- d is the tree of the packet
abbrev pub IsPacketTree : Way → PacketValue → Data → Type 0
IsPacketTree way (marker n) d = (ps : Items) × (d ≡ marker_tree (array ps) (plain 0)) × ArePairTrees ((NID_VBCMK, n) ∷ []) ps
IsPacketTree way (typed nid dir r) d = (ps : Items) × (d ≡ typed_tree way dir (array ps) (plain nid)) × ArePairTrees r ps
IsPacketTree way (kept nid dir b) d = d ≡ kept_tree way (bits_tree b) dir (plain nid)

-- the values are the trees of the packets, in order
abbrev pub ArePacketTrees : Way → List PacketValue → Items → Type 0
ArePacketTrees way [] no_items = Unit {0}
ArePacketTrees way [] (item d ds) = ⊥
ArePacketTrees way (v ∷ vs) no_items = ⊥
ArePacketTrees way (v ∷ vs) (item d ds) = IsPacketTree way v d × ArePacketTrees way vs ds

-- d is the list of the trees of the packets
abbrev pub IsPacketList : Way → List PacketValue → Data → Type 0
IsPacketList way vs d = (ds : Items) × (d ≡ array ds) × ArePacketTrees way vs ds
