-- How many bytes an item needs, where there is another number of them.
use Rattle.std.specs.Prelude.{ℕ, Bool, ◌&&◌, ◌||◌, ◌==◌, not, nat_lt, List, length, slice_index, if◌then◌else◌, Option, None}
use Rattle.etcs_bits.specs.Bits.{bits}
use Rattle.etcs_reasons.specs.Kinds.{wanted_bytes}
use Rattle.etcs_text.specs.declared.entry.Kind.TheVariants.{Radio}
use Rattle.etcs_log.specs.declared.kinds.Kinds.{Kinds}
use Rattle.etcs_log.specs.Candidates.{asks_message}
use Rattle.etcs_log.specs.declared.needs.Needs.{Needs}
use Rattle.etcs_log.specs.declared.needs.Needs.TheVariants.{LongTelegram, ShortTelegram, Message, AnyItem}

-- the bytes begin as telegrams do: with Q_UPDOWN 1 and M_VERSION 32 or 33
abbrev pub begins_telegram : List ℕ → Bool
begins_telegram bytes = (slice_index bytes 0 == 160) || (slice_index bytes 0 == 161)

-- a telegram that was cut, or is too long, is of the size that is asked for; of both sizes, up to 65 bytes are a short one
abbrev pub is_rather_long : Kinds → List ℕ → Bool
is_rather_long kinds bytes = kinds.long && (not kinds.short || nat_lt 65 (length bytes))

-- what an item of these kinds needs where messages are asked for, too, or alone
abbrev pub message_needs : Kinds → Option ℕ → Needs
message_needs kinds wanted = if kinds.long || kinds.short then AnyItem wanted else Message wanted

-- what telegrams of these kinds need
abbrev pub telegram_needs : Kinds → Needs
telegram_needs kinds = if kinds.long && kinds.short then AnyItem None else if kinds.long then LongTelegram else if kinds.short then ShortTelegram else AnyItem None

-- L_MESSAGE, if the bytes may be a message that has it
abbrev pub said_length : Kinds → List ℕ → Option ℕ
said_length kinds bytes = if asks_message kinds bytes then wanted_bytes Radio (bits bytes) else None

-- what these bytes need to be an item of these kinds
abbrev pub needs_of : Kinds → List ℕ → Needs
needs_of kinds bytes =
    if (kinds.long || kinds.short) && begins_telegram bytes then (if is_rather_long kinds bytes then LongTelegram else ShortTelegram) else
    if kinds.radio || kinds.train then message_needs kinds (said_length kinds bytes) else
    telegram_needs kinds
