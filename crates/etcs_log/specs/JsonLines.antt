-- Good lines of a log as JSON.
use Rattle.std.specs.Prelude.{◌≡◌, ℕ, List, ◌++◌, codes}
use Rattle.std.specs.Fmt.{decimal}
use Rattle.std.specs.Str.Lossy.{utf8_lossy}
use Rattle.serde_json.specs.Data.{string}
use Rattle.serde_json.specs.Written.{compact_text}
use Rattle.etcs_text.specs.Entries.{EntryValue}
use Rattle.etcs_text.specs.Trees.{json_tree}
use Rattle.etcs_log.specs.Visible.{visible}

-- the line of an item: an object of the number of the log's line, of what is before its digits (what isn't UTF-8 there is
-- U+FFFD, and its unseen characters are escaped), and of the item's tree
abbrev pub json_item : ℕ → List ℕ → EntryValue → List ℕ
json_item number front e =
    codes "{\"line\":" ++ (decimal number ++ (codes ",\"front\":" ++ (visible (compact_text (string (utf8_lossy front))) ++ (codes ",\"item\":" ++ (compact_text (json_tree e) ++ codes "}\n")))))
