-- What the bytes of a line may be: of which kinds, and which of the bytes.
use Rattle.std.specs.Prelude.{◌≡◌, ℕ, ◌+◌, ◌-◌, ◌*◌, ◌/◌, Bool, true, false, not, ◌&&◌, ◌||◌, ◌==◌, nat_lt, if◌then◌else◌, List, [], ◌∷◌, ◌++◌, length, drop, take, slice_index, codes, ◌⊎◌, Result, Ok, Err}
use Rattle.std.specs.Int.{is_in_range}
use Rattle.hex.specs.Hex.{decode_of}
use Rattle.hex.specs.declared.error.FromHexError.{FromHexError}
use Rattle.etcs_runs.specs.Digits.{text_digits}
use Rattle.etcs_text.specs.declared.entry.Kind.{Kind}
use Rattle.etcs_text.specs.declared.entry.Kind.TheVariants.{Long, Short, Radio, Train}
use Rattle.etcs_text.specs.Entries.{EntryValue}
use Rattle.etcs_text.specs.Verdicts.{IsItem}
use Rattle.etcs_log.specs.declared.kinds.Kinds.{Kinds}
use Rattle.etcs_log.specs.Texts.{item_front}
use Rattle.etcs_reasons.specs.BitDigits.{are_bits, packed}

-- this kind alone
abbrev pub only : Kind → Kinds
only Long = record { long = true; short = false; radio = false; train = false }
only Short = record { long = false; short = true; radio = false; train = false }
only Radio = record { long = false; short = false; radio = true; train = false }
only Train = record { long = false; short = false; radio = false; train = true }

-- this kind is one of them
abbrev pub contains : Kinds → Kind → Bool
contains kinds Long = kinds.long
contains kinds Short = kinds.short
contains kinds Radio = kinds.radio
contains kinds Train = kinds.train

-- these kinds, and this one
abbrev pub added : Kinds → Kind → Kinds
added kinds Long = record kinds { long = true }
added kinds Short = record kinds { short = true }
added kinds Radio = record kinds { radio = true }
added kinds Train = record kinds { train = true }

-- they are two or more
abbrev pub several : Kinds → Bool
several kinds = (kinds.long && (kinds.short || kinds.radio || kinds.train)) || (kinds.short && (kinds.radio || kinds.train)) || (kinds.radio && kinds.train)

-- how many bytes telegrams of a kind have
abbrev pub telegram_bytes : Kind → ℕ
telegram_bytes Long = 104
telegram_bytes Short = 27
telegram_bytes Radio = 0
telegram_bytes Train = 0

-- L_MESSAGE, the ten bits after NID_MESSAGE, is this number of bytes
abbrev pub says_length : List ℕ → Bool
says_length bytes = nat_lt 2 (length bytes) && (length bytes == slice_index bytes 1 * 4 + slice_index bytes 2 / 64)

-- NID_MESSAGE is that of a message to the track
abbrev pub is_to_track : ℕ → Bool
is_to_track number = nat_lt 128 number && nat_lt number 160

-- SUBSET-026 has a message of this number (8.5)
abbrev pub is_message_number : ℕ → Bool
is_message_number n =
    is_in_range 2 3 n || (n == 6) || is_in_range 8 9 n || is_in_range 15 16 n || (n == 18) || (n == 24)
    || is_in_range 27 28 n || is_in_range 32 34 n || is_in_range 37 41 n || (n == 43) || (n == 45)
    || is_in_range 129 130 n || (n == 132) || is_in_range 136 138 n || is_in_range 146 147 n
    || is_in_range 149 150 n || is_in_range 153 159 n

-- the bytes may be a message, if a way is asked for: of any number if messages alone are asked for, and else of a number
-- that SUBSET-026 has
abbrev pub asks_message : Kinds → List ℕ → Bool
asks_message kinds bytes = (kinds.radio || kinds.train) && (not (kinds.long || kinds.short) || is_message_number (slice_index bytes 0))

-- the kind of a message: if both ways are asked for, that of its number
abbrev pub message_way : Kinds → List ℕ → Kind
message_way kinds bytes = if kinds.train && (not kinds.radio || is_to_track (slice_index bytes 0)) then Train else Radio

-- bytes that may be an item of a kind, and what is before their digits
pub record Candidate : Type 0 where
  pub kind : Kind
  pub bytes : List ℕ
  pub front : List ℕ

-- these bytes of a text, the last ones or all, as this kind
abbrev pub trial : Kind → Bool → List ℕ → List ℕ → Candidate
trial kind is_last text bytes = record { kind = kind; bytes = bytes; front = item_front is_last (length bytes) text }

-- the same, if the kind is asked for
abbrev pub where_asked : Bool → Kind → Bool → List ℕ → List ℕ → List Candidate
where_asked asked kind is_last text bytes = if asked then trial kind is_last text bytes ∷ [] else []

-- all bytes of a text; or, if its digits are the bits of a telegram of the kind, the bytes of these bits
abbrev pub whole_bytes : Kind → List ℕ → List ℕ
whole_bytes kind bytes = if are_bits kind bytes then take (telegram_bytes kind) (packed bytes) else bytes

-- all bytes of a text as a telegram of the kind, if it is asked for
abbrev pub whole_candidate : Kinds → Kind → List ℕ → List ℕ → List Candidate
whole_candidate kinds kind text bytes = where_asked (contains kinds kind) kind false text (whole_bytes kind bytes)

-- all bytes of a text as a message, if one is asked for
abbrev pub message_candidate : Kinds → List ℕ → List ℕ → List Candidate
message_candidate kinds text bytes = where_asked (asks_message kinds bytes) (message_way kinds bytes) false text bytes

-- of more bytes than a telegram has, the last ones
abbrev pub last_bytes : Kind → List ℕ → List ℕ
last_bytes kind bytes = drop (length bytes - telegram_bytes kind) bytes

-- the last bytes of a text as a telegram of the kind, if it is asked for and there are more bytes
abbrev pub last_candidate : Kinds → Kind → List ℕ → List ℕ → List Candidate
last_candidate kinds kind text bytes = where_asked (contains kinds kind && nat_lt (telegram_bytes kind) (length bytes)) kind true text (last_bytes kind bytes)

-- what all bytes of a text may be: a long telegram, a short one, a message
abbrev pub whole_candidates : Kinds → List ℕ → List ℕ → List Candidate
whole_candidates kinds text bytes = whole_candidate kinds Long text bytes ++ (whole_candidate kinds Short text bytes ++ message_candidate kinds text bytes)

-- what the last of them may be: a long telegram, a short one
abbrev pub last_candidates : Kinds → List ℕ → List ℕ → List Candidate
last_candidates kinds text bytes = last_candidate kinds Long text bytes ++ last_candidate kinds Short text bytes

-- all that the bytes at the end of a text may be, in the order in which it is tried
abbrev pub candidates : Kinds → List ℕ → List ℕ → List Candidate
candidates kinds text bytes = whole_candidates kinds text bytes ++ last_candidates kinds text bytes

-- the same, if the digits at the end of the text are bytes
abbrev pub digit_candidates : Kinds → List ℕ → Result (List ℕ) FromHexError → List Candidate
digit_candidates kinds text (Ok bytes) = candidates kinds text bytes
digit_candidates kinds text (Err e) = []

-- all that the digits at the end of a text may be
abbrev pub text_candidates : Kinds → List ℕ → List Candidate
text_candidates kinds text = digit_candidates kinds text (decode_of (text_digits text))

-- all that a line may be whose runs of digits are at the ends of these texts
abbrev pub line_candidates : Kinds → List (List ℕ) → List Candidate
line_candidates kinds [] = []
line_candidates kinds (text ∷ texts) = text_candidates kinds text ++ line_candidates kinds texts

-- none of them is an item
abbrev pub AreNone : List Candidate → Type 0
AreNone [] = Unit {0}
AreNone (c ∷ others) = ((e : EntryValue) → IsItem c.kind c.bytes e → ⊥) × AreNone others

-- the first of them that is an item is this one
abbrev pub IsFirst : List Candidate → Candidate → EntryValue → Type 0
IsFirst [] d e = ⊥
IsFirst (c ∷ others) d e = ((d ≡ c) × IsItem c.kind c.bytes e) ⊎ (((v : EntryValue) → IsItem c.kind c.bytes v → ⊥) × IsFirst others d e)

-- an item of the kind may have this number of bytes
abbrev pub may_have : Kind → ℕ → Bool
may_have Long count = count == 104
may_have Short count = count == 27
may_have Radio count = true
may_have Train count = true

-- the bytes are as many as a telegram of the kind has, or the digits are its bits
abbrev pub has_length : Kind → List ℕ → Bool
has_length kind bytes = (length bytes == telegram_bytes kind) || are_bits kind bytes

-- some kind has items of this length
abbrev pub is_wanted : List ℕ → Bool
is_wanted bytes = has_length Long bytes || has_length Short bytes || says_length bytes

-- some kind that is asked for has items of this length
abbrev pub is_asked : Kinds → List ℕ → Bool
is_asked kinds bytes = (kinds.long && has_length Long bytes) || (kinds.short && has_length Short bytes) || ((kinds.radio || kinds.train) && says_length bytes)

-- what a kind is called
abbrev pub kind_name : Kind → List ℕ
kind_name Long = codes "long"
kind_name Short = codes "short"
kind_name Radio = codes "radio"
kind_name Train = codes "train"

-- what is written of the kind before an item: its name and a blank if there are several kinds
abbrev pub named : Kinds → Kind → List ℕ
named kinds kind = if several kinds then kind_name kind ++ codes " " else []
