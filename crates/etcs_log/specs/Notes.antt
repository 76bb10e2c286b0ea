-- What is reported of lines that are no items.
use Rattle.std.specs.Prelude.{ℕ, ◌/◌, ◌%◌, ◌==◌, Bool, true, length, slice_index, ◌∷◌, List, [], ◌++◌, if◌then◌else◌, codes, Option, None, Some}
use Rattle.std.specs.Fmt.{decimal, digits}
use Rattle.etcs_vars.specs.Vars.{name}
use Rattle.etcs_rows.specs.declared.cause.Cause.{Cause}
use Rattle.etcs_rows.specs.declared.cause.Cause.TheVariants.{Spare, Unfit}
use Rattle.etcs_rows.specs.declared.here.Here.{Here}
use Rattle.etcs_rows.specs.declared.here.Here.TheVariants.{Any, MessageLength, PacketNumber, PacketLength, Row}
use Rattle.etcs_rows.specs.declared.refusal.Refusal.{Refusal}
use Rattle.etcs_rows.specs.Words.{words}
use Rattle.etcs_reasons.specs.Kinds.{user_bits}
use Rattle.etcs_text.specs.declared.entry.Kind.{Kind}
use Rattle.etcs_text.specs.declared.entry.Kind.TheVariants.{Long, Short, Radio, Train}
use Rattle.etcs_log.specs.Candidates.{kind_name}
use Rattle.etcs_log.specs.declared.job.Good.{Good}
use Rattle.etcs_log.specs.declared.job.Good.TheVariants.{Left, Digits, Json}
use Rattle.etcs_log.specs.declared.needs.Needs.{Needs}
use Rattle.etcs_log.specs.declared.needs.Needs.TheVariants.{LongTelegram, ShortTelegram, Message, AnyItem}
use Rattle.etcs_log.specs.declared.byte_count.ByteCount.{ByteCount}
use Rattle.etcs_log.specs.declared.notes.Note.{Note}
use Rattle.etcs_log.specs.declared.notes.Note.TheVariants.{TooLong, NoDigits, OddDigits, Bytes, Refused, Other, OtherBits, Another}

-- ---- In words.

-- the ending of a noun after this number
abbrev pub plural : ℕ → List ℕ
plural n = if n == 1 then [] else codes "s"

-- how many bytes there are, with the first four of them, and whether these are named
abbrev pub count_of : Bool → List ℕ → ByteCount
count_of named bytes = record { count = length bytes; first = slice_index bytes 0 ∷ slice_index bytes 1 ∷ slice_index bytes 2 ∷ slice_index bytes 3 ∷ []; named = named }

-- the two digits of a byte
abbrev pub byte_text : ℕ → List ℕ
byte_text b = digits 16 true (b / 16) ++ digits 16 true (b % 16)

-- the digits of the n-th of the first bytes
abbrev pub digits_at : ℕ → ByteCount → List ℕ
digits_at n c = byte_text (slice_index c.first n)

-- the first bytes, up to four, and two dots if there are more
unfoldable pub named_text : ByteCount → List ℕ
named_text c =
    if c.count == 1 then codes " (" ++ (digits_at 0 c ++ codes ")") else
    if c.count == 2 then codes " (" ++ (digits_at 0 c ++ (digits_at 1 c ++ codes ")")) else
    if c.count == 3 then codes " (" ++ (digits_at 0 c ++ (digits_at 1 c ++ (digits_at 2 c ++ codes ")"))) else
    if c.count == 4 then codes " (" ++ (digits_at 0 c ++ (digits_at 1 c ++ (digits_at 2 c ++ (digits_at 3 c ++ codes ")")))) else
    codes " (" ++ (digits_at 0 c ++ (digits_at 1 c ++ (digits_at 2 c ++ (digits_at 3 c ++ codes "..)"))))

-- how many bytes there are, and the first of them if they are named
unfoldable pub count_text : ByteCount → List ℕ
count_text c = (decimal c.count ++ (codes " byte" ++ plural c.count)) ++ (if c.named then named_text c else [])

-- how many bytes an item needs
unfoldable pub needed_text : Needs → List ℕ
needed_text LongTelegram = codes ", but a long telegram has 104"
needed_text ShortTelegram = codes ", but a short telegram has 27"
needed_text (Message None) = codes ", but a radio message has at least 3"
needed_text (Message (Some n)) = codes ", but L_MESSAGE is " ++ decimal n
needed_text (AnyItem None) = codes ", which no item of these kinds has"
needed_text (AnyItem (Some n)) = codes ", which no item of these kinds has: L_MESSAGE is " ++ decimal n

-- which items have this number of bytes
abbrev pub other_words : ℕ → List ℕ
other_words n = if n == 104 then codes ", as a long telegram has" else if n == 27 then codes ", as a short telegram has" else codes ", as a radio message whose L_MESSAGE says so"

-- which telegram has as many bits
abbrev pub other_bits_words : Kind → List ℕ
other_bits_words Long = codes "830 bits, as a long telegram has"
other_bits_words Short = codes "210 bits, as a short telegram has"
other_bits_words Radio = []
other_bits_words Train = []

-- why a line is no item
unfoldable pub reason : Note → List ℕ
reason TooLong = codes "line longer than 1,048,576 characters"
reason NoDigits = codes "no hexadecimal digits at its end"
reason (OddDigits n) = decimal n ++ (codes " digit" ++ (plural n ++ codes ", an odd number"))
reason (Bytes needs c) = count_text c ++ needed_text needs
reason (Refused kind r) = words r
reason (Other c) = count_text c ++ other_words c.count
reason (OtherBits kind) = other_bits_words kind
reason (Another c) = codes "another item before it: " ++ count_text c

-- ---- As members of an object of JSON.

-- what a cause is called
abbrev pub cause_name : Cause → List ℕ
cause_name Spare = codes "spare"
cause_name (Unfit n) = codes "unfit"

-- a number, if there is one
unfoldable pub number_member : List ℕ → Option ℕ → List ℕ
number_member label None = []
number_member label (Some n) = codes ",\"" ++ (label ++ (codes "\":" ++ decimal n))

-- the message or packet whose length it is, and how many bits are left
unfoldable pub here_members : Here → List ℕ
here_members Any = []
here_members (MessageLength way nid) = codes ",\"message\":" ++ decimal nid
here_members (PacketNumber c room) = codes ",\"room\":" ++ decimal room
here_members (PacketLength c nid room) = codes ",\"packet\":" ++ (decimal nid ++ (codes ",\"room\":" ++ decimal room))
here_members (Row nid row room) = codes ",\"packet\":" ++ (decimal nid ++ (codes ",\"room\":" ++ decimal room))

-- where and why a bit is refused
unfoldable pub refusal_members : Refusal → List ℕ
refusal_members r =
    (codes ",\"bit\":" ++ (decimal r.bit ++ (codes ",\"variable\":\"" ++ (name r.var ++ (codes "\",\"cause\":\"" ++ (cause_name r.cause ++ codes "\""))))))
    ++ (number_member (codes "number") r.number ++ (number_member (codes "below") r.below ++ (number_member (codes "above") r.above ++ here_members r.here)))

-- what is reported of a line, without its number and the reason in words
unfoldable pub members : Note → List ℕ
members TooLong = codes ",\"cause\":\"too long\""
members NoDigits = codes ",\"cause\":\"no digits\""
members (OddDigits n) = codes ",\"cause\":\"odd digits\",\"digits\":" ++ decimal n
members (Bytes needs c) = codes ",\"cause\":\"bytes\",\"bytes\":" ++ decimal c.count
members (Refused kind r) = (codes ",\"kind\":\"" ++ (kind_name kind ++ codes "\"")) ++ refusal_members r
members (Other c) = codes ",\"cause\":\"other\",\"bytes\":" ++ decimal c.count
members (Another c) = codes ",\"cause\":\"another item\",\"bytes\":" ++ decimal c.count
members (OtherBits kind) = codes ",\"cause\":\"other\",\"bits\":" ++ decimal (user_bits kind)

-- ---- A line of the notes.

-- where the line is refused, or that it isn't bad
unfoldable pub label : Note → List ℕ
label TooLong = []
label NoDigits = []
label (OddDigits n) = []
label (Bytes needs c) = []
label (Refused kind r) = codes "refused at bit " ++ (decimal r.bit ++ (codes ", " ++ (name r.var ++ codes ": ")))
label (Other c) = codes "other: "
label (OtherBits kind) = codes "other: "
label (Another c) = []

-- in words
unfoldable pub plain_text : ℕ → Note → List ℕ
plain_text number note = codes "line " ++ (decimal number ++ (codes ": " ++ (label note ++ (reason note ++ codes "\n"))))

-- what is reported of the line of this number: words, or an object if good lines are written as JSON
unfoldable pub note_text : Good → ℕ → Note → List ℕ
note_text Left number note = plain_text number note
note_text Digits number note = plain_text number note
note_text Json number note = codes "{\"line\":" ++ (decimal number ++ (members note ++ (codes ",\"reason\":\"" ++ (reason note ++ codes "\"}\n"))))
