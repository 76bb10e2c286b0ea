-- Parts of the JSON of variables and packets: what is written before and after their lists.
use Rattle.std.specs.Prelude.{ℕ, Bool, List, [], ◌∷◌, ◌++◌, map, Option, Some, None, codes, decimal}
use Rattle.json.specs.Print.{quoted}
use Rattle.serde_json.specs.Written.{compact_text}
use Rattle.etcs_vars.specs.declared.var.Var.{Var}
use Rattle.etcs_vars.specs.Vars.{name}
use Rattle.etcs_tables.specs.declared.row.Way.{Way}
use Rattle.etcs_tables.specs.declared.row.Way.TheVariants.{ToTrain, ToTrack}
use Rattle.etcs_packets.specs.PacketValues.{PacketValue, dir_of, nid_of, variables_of}
use Rattle.etcs_packet_text.specs.Show.{bit_digit}
use Rattle.etcs_packet_text.specs.Trees.{pairs_tree}

-- what is in a pair before the number
abbrev pub pair_front : Var → List ℕ
pair_front v = 91 ∷ (quoted (name v) ++ 44 ∷ [])

-- a direction, if it is sent: to the train alone
abbrev pub sent_of : Way → Option ℕ → Option ℕ
sent_of ToTrain dir = dir
sent_of ToTrack dir = None

-- that of a packet
abbrev pub sent_dir : Way → PacketValue → Option ℕ
sent_dir way v = sent_of way (dir_of v)

-- what is in a packet before its fields
abbrev pub fields_front : Option ℕ → List ℕ
fields_front None = codes "{\"fields\":"
fields_front (Some dir) = codes "{\"dir\":" ++ (decimal dir ++ codes ",\"fields\":")

-- a packet with fields
abbrev pub fields_text : Way → PacketValue → List ℕ
fields_text way v = fields_front (sent_dir way v) ++ (compact_text (pairs_tree (variables_of v)) ++ (codes ",\"nid\":" ++ (decimal (nid_of v) ++ codes "}")))

-- what is in a packet that is kept as bits after these
abbrev pub data_after : Option ℕ → List ℕ
data_after None = codes "\",\"nid\":"
data_after (Some dir) = codes "\",\"dir\":" ++ (decimal dir ++ codes ",\"nid\":")

-- a packet that is kept as bits
abbrev pub data_text : Way → PacketValue → List Bool → List ℕ
data_text way v b = codes "{\"data\":\"" ++ (map bit_digit b ++ (data_after (sent_dir way v) ++ (decimal (nid_of v) ++ codes "}")))
