-- Which trees items have when JSON is read: the digits of NID_RADIO may be in either case.
use Rattle.std.specs.Prelude.{◌≡◌, codes}
use Rattle.serde_json.specs.Data.{Data, string, array, object, Items, no_members, member}
use Rattle.etcs_tables.specs.declared.row.Way.{Way}
use Rattle.etcs_tables.specs.declared.row.Way.TheVariants.{ToTrain}
use Rattle.etcs_telegram.specs.declared.size.Size.{Size}
use Rattle.etcs_telegram.specs.Telegrams.{TelegramValue, header_reading}
use Rattle.etcs_messages.specs.Messages.{MessageValue, typed_message, kept_message}
use Rattle.etcs_text.specs.Entries.{EntryValue, of_telegram, of_message}
use Rattle.etcs_text.specs.Show.{kind_word, way_word}
use Rattle.etcs_packet_text.specs.Trees.{bits_tree}
use Rattle.etcs_json_trees.specs.TreeReading.{ArePairTrees, ArePacketTrees, plain}

-- the object of a telegram with these members
abbrev pub telegram_tree : Size → Data → Data → Data → Data
telegram_tree size fill header packets = object (member (codes "fill") fill (member (codes "header") header (member (codes "kind") (string (kind_word size)) (member (codes "packets") packets no_members))))

-- d is a tree of the telegram
abbrev pub IsTelegramTree : TelegramValue → Data → Type 0
IsTelegramTree t d = (hs : Items) × (ps : Items) × (d ≡ telegram_tree t.size (bits_tree t.fill) (array hs) (array ps)) × ArePairTrees (header_reading t.header) hs × ArePacketTrees ToTrain t.packets ps

-- the object of a typed message with these members: L_MESSAGE isn't one, since it follows from the rest
abbrev pub message_tree : Way → Data → Data → Data → Data → Data → Data
message_tree way fields header nid packets padding = object (member (codes "fields") fields (member (codes "header") header (member (codes "kind") (string (way_word way)) (member (codes "nid") nid (member (codes "packets") packets (member (codes "padding") padding no_members))))))

-- the object of a message that is kept as bits
abbrev pub kept_message_tree : Way → Data → Data → Data
kept_message_tree way data' nid = object (member (codes "data") data' (member (codes "kind") (string (way_word way)) (member (codes "nid") nid no_members)))

-- d is a tree of the message
abbrev pub IsMessageTree : Way → MessageValue → Data → Type 0
IsMessageTree way (typed_message nid head body vs padding) d = (fs : Items) × (hs : Items) × (ps : Items) × (d ≡ message_tree way (array fs) (array hs) (plain nid) (array ps) (bits_tree padding)) × ArePairTrees body fs × ArePairTrees head hs × ArePacketTrees way vs ps
IsMessageTree way (kept_message nid b) d = d ≡ kept_message_tree way (bits_tree b) (plain nid)

-- d is a tree of the item: its own (`json_tree`), except that the digits of NID_RADIO may be in either case
abbrev pub IsTreeOf : EntryValue → Data → Type 0
IsTreeOf (of_telegram t) d = IsTelegramTree t d
IsTreeOf (of_message way m) d = IsMessageTree way m d
