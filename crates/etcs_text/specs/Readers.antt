-- What a reader of items stands for, and what a feed returns.
use Rattle.std.specs.Prelude.{ℕ, Bool, List, [], Result}
use Rattle.etcs_vars.specs.declared.feed.Fed.{Fed}
use Rattle.etcs_vars.specs.declared.feed.ReadFault.{ReadFault}
use Rattle.etcs_tables.specs.declared.row.Way.TheVariants.{ToTrain, ToTrack}
use Rattle.etcs_sequence.specs.Progress as inner
pub use Rattle.etcs_sequence.specs.Progress.{reading, finished, IsReading, fault_of}
use Rattle.etcs_telegram.specs.Telegrams.{TelegramContent, telegram_value}
use Rattle.etcs_radio.specs.Messages as radio
use Rattle.etcs_train.specs.Messages as train
use Rattle.etcs_text.specs.declared.entry.Kind.{Kind}
use Rattle.etcs_text.specs.declared.entry.Kind.TheVariants.{Long, Short, Radio}
use Rattle.etcs_text.specs.declared.entry.Kind.TheVariants as of_kind
use Rattle.etcs_text.specs.Entries.{EntryReads, EntryValue, of_telegram, of_message, kind_of, message_kind}
use Rattle.etcs_text.specs.declared.entries.Inner.{Inner}
use Rattle.etcs_text.specs.declared.entries.Inner.TheVariants.{Telegram, Message, Train}

-- how far a reader of items came
abbrev pub Progress : Type 0
Progress = inner.Progress EntryValue

-- what a reader stands for: its kind and its progress
pub record ReaderValue : Type 0 where
  pub kind : Kind
  pub progress : Progress

-- the progress of the reader inside, each of whose values is an item
abbrev pub progress_of : {V : Type 0} → (V → EntryValue) → inner.Progress V → Progress
progress_of item (inner.reading b) = inner.reading b
progress_of item (inner.finished v) = inner.finished (item v)
progress_of item (inner.stopped i x) = inner.stopped i x
progress_of item (inner.starved n) = inner.starved n

-- a telegram as an item
abbrev pub telegram_item : TelegramContent → EntryValue
telegram_item t = of_telegram (telegram_value t)

-- a message to the train as an item
abbrev pub message_item : radio.Content → EntryValue
message_item m = of_message ToTrain (radio.message_value m)

-- a message to the track as an item
abbrev pub train_item : train.Content → EntryValue
train_item m = of_message ToTrack (train.message_value m)

-- what a reader stands for, computed from the reader inside: it reads items of that one's kind alone
abbrev pub value_of : Inner → ReaderValue
value_of (Telegram r) = record { kind = kind_of r.size; progress = progress_of telegram_item r.progress }
value_of (Message s) = record { kind = message_kind ToTrain; progress = progress_of message_item s }
value_of (Train s) = record { kind = message_kind ToTrack; progress = progress_of train_item s }

-- the bits of an item that isn't whole yet
abbrev pub seen_bits : Progress → List Bool
seen_bits (inner.reading b) = b
seen_bits (inner.finished e) = []
seen_bits (inner.stopped i x) = []
seen_bits (inner.starved n) = []

-- how many bits of an item need no memory: 50 of a telegram, its header; 18 of a message, NID_MESSAGE and L_MESSAGE
abbrev pub least_bits : Kind → ℕ
least_bits Long = 50
least_bits Short = 50
least_bits Radio = 18
least_bits of_kind.Train = 18

-- what a feed of new bits returns after those seen of an item of the kind, and the progress after it, whose value is the item
abbrev pub Feeds : Kind → List Bool → List Bool → Result Fed ReadFault → Progress → Type 0
Feeds kind = inner.Feeds (EntryReads kind) (λ (e : EntryValue). e) (λ e. Unit {0}) (least_bits kind)
