-- What the items of an input are: telegrams of a size, or radio messages of a way (SUBSET-026, chapters 7 and 8).
use Rattle.std.specs.Prelude.{◌≡◌, ℕ, List}
use Rattle.etcs_vars.specs.Reading.{Reading}
use Rattle.etcs_tables.specs.declared.row.Way.{Way}
use Rattle.etcs_tables.specs.declared.row.Way.TheVariants.{ToTrain, ToTrack}
use Rattle.etcs_messages.specs.Messages.{MessageValue, MessageReads}
use Rattle.etcs_radio.specs.Messages as radio
use Rattle.etcs_train.specs.Messages as train
use Rattle.etcs_telegram.specs.declared.size.Size.{Size}
use Rattle.etcs_telegram.specs.declared.size.Size.TheVariants as size
use Rattle.etcs_telegram.specs.Telegrams.{TelegramValue, TelegramReads, telegram_value, user_bits}
use Rattle.etcs_text.specs.Messages.{message_bits, message_text}
use Rattle.etcs_text.specs.Telegrams.{show_text}
use Rattle.etcs_text.specs.declared.entry.Kind.{Kind}
use Rattle.etcs_text.specs.declared.entry.Kind.TheVariants.{Long, Short, Radio, Train}
use Rattle.etcs_text.specs.declared.entry.Entry.{Entry}
use Rattle.etcs_text.specs.declared.entry.Entry.TheVariants as entry

-- what an item stands for: what its telegram does; or what its message does, and its way
pub data EntryValue : Type 0 where
  of_telegram : TelegramValue → EntryValue
  -- a message that goes this way
  of_message : Way → MessageValue → EntryValue

-- what this item stands for
abbrev pub entry_value : Entry → EntryValue
entry_value (entry.Telegram t) = of_telegram (telegram_value t)
entry_value (entry.Message m) = of_message ToTrain (radio.message_value m)
entry_value (entry.Train m) = of_message ToTrack (train.message_value m)

-- the kind of the telegrams of a size
abbrev pub kind_of : Size → Kind
kind_of size.Long = Long
kind_of size.Short = Short

-- the kind of the messages of a way
abbrev pub message_kind : Way → Kind
message_kind ToTrain = Radio
message_kind ToTrack = Train

-- the kind of an item
abbrev pub entry_kind : EntryValue → Kind
entry_kind (of_telegram t) = kind_of t.size
entry_kind (of_message way m) = message_kind way

-- r is the reading of the item, a telegram or a message
abbrev pub Spells : EntryValue → Reading → Type 0
Spells (of_telegram t) r = TelegramReads t r
Spells (of_message way m) r = MessageReads way m r

-- r is the reading of the item e, which is of this kind: a telegram of the kind's size, or a message that goes the
-- kind's way
abbrev pub EntryReads : Kind → EntryValue → Reading → Type 0
EntryReads kind e r = (entry_kind e ≡ kind) × Spells e r

-- how many bits an item has; of a telegram its user bits
abbrev pub entry_bits : EntryValue → ℕ
entry_bits (of_telegram t) = user_bits t.size
entry_bits (of_message way m) = message_bits way m

-- the text of the item of this number: that of a telegram or of a message
abbrev pub entry_text : EntryValue → ℕ → List ℕ
entry_text (of_telegram t) item = show_text t item
entry_text (of_message way m) item = message_text way m item
