-- Parts of the JSON of an item: what is written between its lists.
use Rattle.std.specs.Prelude.{ℕ, Bool, List, ◌++◌, map, codes}
use Rattle.serde_json.specs.Written.{compact_text}
use Rattle.etcs_vars.specs.Reading.{Reading}
use Rattle.etcs_tables.specs.declared.row.Way.{Way}
use Rattle.etcs_tables.specs.declared.row.Way.TheVariants.{ToTrain}
use Rattle.etcs_packets.specs.PacketValues.{PacketValue}
use Rattle.etcs_telegram.specs.declared.size.Size.{Size}
use Rattle.etcs_telegram.specs.Telegrams.{TelegramValue, header_reading}
use Rattle.etcs_packet_text.specs.Show.{bit_digit}
use Rattle.etcs_text.specs.Show.{kind_word, way_word}
use Rattle.etcs_packet_text.specs.Trees.{packets_tree, pairs_tree}

-- what is in a telegram between its header and its packets: the kind, and the name `packets`
abbrev pub kind_member : Size → List ℕ
kind_member size = codes ",\"kind\":\"" ++ (kind_word size ++ codes "\",\"packets\":")

-- the compact text of a telegram
abbrev pub telegram_text : TelegramValue → List ℕ
telegram_text t = codes "{\"fill\":\"" ++ (map bit_digit t.fill ++ (codes "\",\"header\":" ++ (compact_text (pairs_tree (header_reading t.header)) ++ (kind_member t.size ++ (compact_text (packets_tree ToTrain t.packets) ++ codes "}")))))

-- what is in a message just before its number: the kind, and the name `nid`
abbrev pub way_member : Way → List ℕ
way_member way = codes ",\"kind\":\"" ++ (way_word way ++ codes "\",\"nid\":")

-- what is in a typed message before its kind: its own variables, and those of the header
abbrev pub message_front : Reading → Reading → List ℕ
message_front body head = codes "{\"fields\":" ++ (compact_text (pairs_tree body) ++ (codes ",\"header\":" ++ compact_text (pairs_tree head)))

-- what follows the name of its packets: these, and PADDING
abbrev pub message_after : Way → List PacketValue → List Bool → List ℕ
message_after way vs padding = compact_text (packets_tree way vs) ++ (codes ",\"padding\":\"" ++ (map bit_digit padding ++ codes "\"}"))
