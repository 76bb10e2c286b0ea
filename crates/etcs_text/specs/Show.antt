-- The first line of the text of an item.
use Rattle.std.specs.Prelude.{ℕ, List, ◌++◌, codes}
use Rattle.std.specs.Fmt.{decimal}
use Rattle.etcs_tables.specs.declared.row.Way.{Way}
use Rattle.etcs_tables.specs.declared.row.Way.TheVariants.{ToTrain, ToTrack}
use Rattle.etcs_telegram.specs.declared.size.Size.{Size}
use Rattle.etcs_telegram.specs.declared.size.Size.TheVariants.{Short, Long}
use Rattle.etcs_telegram.specs.Telegrams.{user_bits}

-- telegrams of 210 user bits are of kind short, those of 830 of kind long
abbrev pub kind_word : Size → List ℕ
kind_word Short = codes "short"
kind_word Long = codes "long"

-- messages to the train are of kind radio, those to the track of kind train
abbrev pub way_word : Way → List ℕ
way_word ToTrain = codes "radio"
way_word ToTrack = codes "train"

-- the line of the item with its number, its kind and its count of bits
abbrev pub item_line : Size → ℕ → List ℕ
item_line size item = codes "item " ++ decimal item ++ codes " " ++ kind_word size ++ codes " " ++ decimal (user_bits size) ++ codes " bits\n"
