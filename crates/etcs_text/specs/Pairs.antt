-- Items as pairs of a variable and its number, without a value of their types.
use Rattle.std.specs.Prelude.{◌≡◌, ◌<◌, Bool, List, length, take}
use Rattle.etcs_bits.specs.Bits.{num}
use Rattle.etcs_vars.specs.Vars.{width}
use Rattle.etcs_vars.specs.Reading.{Reading, spelled, Outcome, done, refused, more}
use Rattle.etcs_tables.specs.declared.row.Way.TheVariants.{ToTrain, ToTrack}
use Rattle.etcs_packets.specs.PacketValues.{form}
use Rattle.etcs_track.specs.TrackPackets.{track_form}
use Rattle.etcs_telegram.specs.declared.size.Size.TheVariants as size
use Rattle.etcs_telegram.specs.Telegrams.{IsTelegram, TelegramLanguage, telegram_value}
use Rattle.etcs_telegram.specs.Writing.{telegram_reading}
use Rattle.etcs_messages.specs.Messages.{MessageLanguage}
use Rattle.etcs_messages.specs.Readings.{message_reading}
use Rattle.etcs_radio.specs.Bodies.{radio_head, radio_body}
use Rattle.etcs_radio.specs.Messages as radio
use Rattle.etcs_train.specs.Bodies.{train_head, train_body}
use Rattle.etcs_train.specs.Messages as train
use Rattle.etcs_text.specs.Accounts.{Shows}
use Rattle.etcs_text.specs.declared.account.End.{End}
use Rattle.etcs_text.specs.declared.account.End.TheVariants.{Whole, Open, Refused}
use Rattle.etcs_text.specs.declared.entry.Entry.{Entry}
use Rattle.etcs_text.specs.declared.entry.Entry.TheVariants as entry
use Rattle.etcs_text.specs.declared.entry.Kind.{Kind}
use Rattle.etcs_text.specs.declared.entry.Kind.TheVariants.{Long, Short, Radio, Train}

-- the readings of the items of a kind: of the telegrams of its size, or of the messages that go its way
abbrev pub ItemLanguage : Kind → Reading → Type 0
ItemLanguage Long = TelegramLanguage size.Long
ItemLanguage Short = TelegramLanguage size.Short
ItemLanguage Radio = MessageLanguage ToTrain
ItemLanguage Train = MessageLanguage ToTrack

-- the pairs p are an item of the kind, and r is its reading, which are these pairs
abbrev pub PairsRead : Kind → Reading → Reading → Type 0
PairsRead kind p r = (r ≡ p) × ItemLanguage kind p

-- what is found, by the pairs p and where they end
abbrev pub outcome_of : Reading → End → Outcome Reading
outcome_of p Whole = done p (length (spelled p))
outcome_of p (Open part) = more
outcome_of p (Refused bit part) = refused bit part.var

-- of bits b that don't begin with an item: p are all pairs before the end of the bits, or before the refused bit. After them
-- come the bits of the part, fewer than its variable has, which follows p in a reading of L
abbrev pub IsUpTo : (Reading → Type 0) → Reading → End → List Bool → Type 0
IsUpTo L p Whole b = Unit {0}
IsUpTo L p (Open part) b = Shows L p part.var (num part.count part.bits) b × (part.count < width part.var)
IsUpTo L p (Refused bit part) b = Shows L p part.var (num part.count part.bits) (take bit b) × (part.count < width part.var)

-- ---- Of values.

-- the variables of an item with their numbers, in the order of sending
abbrev pub entry_reading : Entry → Reading
entry_reading (entry.Telegram t) = telegram_reading (telegram_value t)
entry_reading (entry.Message m) = message_reading ToTrain radio_head radio_body form m
entry_reading (entry.Train m) = message_reading ToTrack train_head train_body track_form m

-- what the type of the telegram or of the message keeps
abbrev pub IsEntry : Entry → Type 0
IsEntry (entry.Telegram t) = IsTelegram t
IsEntry (entry.Message m) = radio.IsMessage m
IsEntry (entry.Train m) = train.IsMessage m
