-- The balise groups of a log.
use Rattle.std.specs.Prelude.{◌≡◌, List, [], ◌∷◌, ◌++◌, map}
use Rattle.etcs_telegram.specs.Telegrams.{TelegramContent, TelegramValue, telegram_value}
use Rattle.etcs_group.specs.declared.groups.Group.{Group}
use Rattle.etcs_group.specs.ManyGroups.{AreGroupsOf}
use Rattle.etcs_text.specs.Entries.{EntryValue, of_telegram, of_message}

-- the telegram that an item is, if it is one
abbrev pub telegram_of : EntryValue → List TelegramValue
telegram_of (of_telegram t) = t ∷ []
telegram_of (of_message way m) = []

-- telegrams of these values, in their order, have these groups
abbrev pub AreGroups : List TelegramValue → List Group → Type 0
AreGroups vs gs = (ts : List TelegramContent) × (map telegram_value ts ≡ vs) × AreGroupsOf ts gs

-- an item was added to groups: a telegram, after those that they have; a message isn't
abbrev pub Holds : EntryValue → List Group → List Group → Type 0
Holds e old new = (vs : List TelegramValue) → AreGroups vs old → AreGroups (vs ++ telegram_of e) new
