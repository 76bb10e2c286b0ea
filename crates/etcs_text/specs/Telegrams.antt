-- The text of a telegram (SUBSET-026, chapters 7 and 8).
use Rattle.std.specs.Prelude.{ℕ, List, ◌++◌, flat_map, codes}
use Rattle.etcs_tables.specs.declared.row.Way.TheVariants.{ToTrain}
use Rattle.etcs_telegram.specs.Telegrams.{TelegramValue, header_reading}
use Rattle.etcs_packet_text.specs.Show.{variable_line, fill_line}
use Rattle.etcs_text.specs.Show.{item_line}
use Rattle.etcs_packet_text.specs.Packets.{packets_text}

-- the text of the telegram of this number: the line of the item, a line for each variable of the header, its packets,
-- `packet 255`, and the line of FILL
unfoldable pub show_text : TelegramValue → ℕ → List ℕ
show_text t item =
    item_line t.size item ++ flat_map variable_line (header_reading t.header) ++ packets_text ToTrain t.packets ++ codes "packet 255\n" ++ fill_line t.fill
