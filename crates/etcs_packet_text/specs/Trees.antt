-- The JSON trees of variables and packets.
use Rattle.std.specs.Prelude.{ℕ, Bool, List, [], ◌∷◌, map, codes}
use Rattle.serde_json.specs.Data.{Data, Members, number, unsigned, string, array, object, no_items, item, no_members, member}
use Rattle.serde_json.specs.View.{items_of}
use Rattle.etcs_vars.specs.declared.var.Var.{Var}
use Rattle.etcs_vars.specs.declared.var.Var.TheVariants.{NID_RADIO, NID_VBCMK}
use Rattle.etcs_vars.specs.Vars.{name}
use Rattle.etcs_vars.specs.Reading.{Reading, Sent}
use Rattle.etcs_tables.specs.declared.row.Way.{Way}
use Rattle.etcs_tables.specs.declared.row.Way.TheVariants.{ToTrain, ToTrack}
use Rattle.etcs_packets.specs.PacketValues.{PacketValue, marker, typed, kept}
use Rattle.etcs_packet_text.specs.Show.{bit_digit, hex_digits}

-- the number of a variable; that of NID_RADIO is a text of sixteen hexadecimal digits in lower case
abbrev pub number_tree : Var → ℕ → Data
number_tree NID_RADIO n = string (hex_digits 16 n)
number_tree v n = number (unsigned n)

-- a variable with its number: a list of its name and the number
abbrev pub pair_tree : Sent → Data
pair_tree p = array (item (string (name p.0)) (item (number_tree p.0 p.1) no_items))

-- a list of a pair for each variable
abbrev pub pairs_tree : Reading → Data
pairs_tree r = array (items_of (map pair_tree r))

-- bits as a text of the digits 0 and 1
abbrev pub bits_tree : List Bool → Data
bits_tree bs = string (map bit_digit bs)

-- the direction, which is sent to the train alone, before these members
abbrev pub with_dir : Way → ℕ → Members → Members
with_dir ToTrain dir ms = member (codes "dir") (number (unsigned dir)) ms
with_dir ToTrack dir ms = ms

-- a packet: `dir`, `fields` and `nid` of a typed one; `data`, `dir` and `nid` of one that is kept as bits; `fields` and
-- `nid` of packet 0; to the track none has `dir`
abbrev pub packet_tree : Way → PacketValue → Data
packet_tree way (marker n) = object (member (codes "fields") (pairs_tree ((NID_VBCMK, n) ∷ [])) (member (codes "nid") (number (unsigned 0)) no_members))
packet_tree way (typed nid dir r) = object (with_dir way dir (member (codes "fields") (pairs_tree r) (member (codes "nid") (number (unsigned nid)) no_members)))
packet_tree way (kept nid dir b) = object (member (codes "data") (bits_tree b) (with_dir way dir (member (codes "nid") (number (unsigned nid)) no_members)))

-- a list of packets
abbrev pub packets_tree : Way → List PacketValue → Data
packets_tree way vs = array (items_of (map (packet_tree way) vs))
