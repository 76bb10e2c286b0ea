-- What items of a kind have.
use Rattle.std.specs.Prelude.{ℕ, Bool, List, Option, Some, None, nat_lt, if◌then◌else◌}
use Rattle.etcs_bits.specs.Bits.{number_at}
use Rattle.etcs_tables.specs.declared.row.Way.{Way}
use Rattle.etcs_tables.specs.declared.row.Way.TheVariants.{ToTrain, ToTrack}
use Rattle.etcs_telegram.specs.Telegrams as telegrams
use Rattle.etcs_telegram.specs.declared.size.Size.TheVariants as size
use Rattle.etcs_text.specs.declared.entry.Kind.{Kind}
use Rattle.etcs_text.specs.declared.entry.Kind.TheVariants.{Long, Short, Radio, Train}

-- the way of the items of a kind
abbrev pub way_of : Kind → Way
way_of Long = ToTrain
way_of Short = ToTrain
way_of Radio = ToTrain
way_of Train = ToTrack

-- the way of messages of this number, if the number has one (SUBSET-026, 8.5)
abbrev pub way_of_message : ℕ → Option Way
way_of_message n =
    if nat_lt n 2 then None else
    if nat_lt n 46 then Some ToTrain else
    if nat_lt n 129 then None else
    if nat_lt n 160 then Some ToTrack else None

-- how many bits a telegram of the kind has before PAD; 0 for a message
abbrev pub user_bits : Kind → ℕ
user_bits Long = telegrams.user_bits size.Long
user_bits Short = telegrams.user_bits size.Short
user_bits Radio = 0
user_bits Train = 0

-- how many bytes an item has that begins with these bits: for a message L_MESSAGE, if it is there
abbrev pub wanted_bytes : Kind → List Bool → Option ℕ
wanted_bytes Long b = Some 104
wanted_bytes Short b = Some 27
wanted_bytes Radio b = number_at 8 10 b
wanted_bytes Train b = number_at 8 10 b
