-- The JSON trees of items. The members of an object are in the order of their names.
use Rattle.std.specs.Prelude.{codes}
use Rattle.serde_json.specs.Data.{Data, number, unsigned, string, object, no_members, member}
use Rattle.etcs_tables.specs.declared.row.Way.{Way}
use Rattle.etcs_tables.specs.declared.row.Way.TheVariants.{ToTrain}
use Rattle.etcs_telegram.specs.Telegrams.{TelegramValue, header_reading}
use Rattle.etcs_messages.specs.Messages.{MessageValue, typed_message, kept_message}
use Rattle.etcs_packet_text.specs.Trees.{bits_tree, packets_tree, pairs_tree}
use Rattle.etcs_text.specs.Entries.{EntryValue, of_telegram, of_message}
use Rattle.etcs_text.specs.Show.{kind_word, way_word}

-- a telegram: `fill`, `header`, `kind` and `packets`
abbrev pub telegram_tree : TelegramValue → Data
telegram_tree t = object (member (codes "fill") (bits_tree t.fill) (member (codes "header") (pairs_tree (header_reading t.header)) (member (codes "kind") (string (kind_word t.size)) (member (codes "packets") (packets_tree ToTrain t.packets) no_members))))

-- a typed message: `fields`, `header`, `kind`, `nid`, `packets` and `padding`; one that is kept: `data`, `kind` and
-- `nid`. L_MESSAGE isn't among them: it follows from the rest
abbrev pub message_tree : Way → MessageValue → Data
message_tree way (typed_message nid head body vs padding) = object (member (codes "fields") (pairs_tree body) (member (codes "header") (pairs_tree head) (member (codes "kind") (string (way_word way)) (member (codes "nid") (number (unsigned nid)) (member (codes "packets") (packets_tree way vs) (member (codes "padding") (bits_tree padding) no_members))))))
message_tree way (kept_message nid b) = object (member (codes "data") (bits_tree b) (member (codes "kind") (string (way_word way)) (member (codes "nid") (number (unsigned nid)) no_members)))

-- the tree of an item: that of the telegram or the message that it stands for
abbrev pub json_tree : EntryValue → Data
json_tree (of_telegram t) = telegram_tree t
json_tree (of_message way m) = message_tree way m
