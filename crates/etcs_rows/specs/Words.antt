-- A refusal in words.
use Rattle.std.specs.Prelude.{ℕ, ◌+◌, ◌-◌, ◌*◌, ◌^◌, ◌==◌, List, [], ◌∷◌, ◌++◌, if◌then◌else◌, codes, Option, None, Some}
use Rattle.std.specs.Fmt.{decimal}
use Rattle.std.specs.List.{flat_map}
use Rattle.etcs_vars.specs.Vars.{width, ranges, name}
use Rattle.etcs_tables.specs.Frames.{frame_bits}
use Rattle.etcs_tables.specs.MessageRows.{lengths_after}
use Rattle.etcs_tables.specs.Rows.{message_row_to}
use Rattle.etcs_rows.specs.declared.frames.Carrier.{Carrier}
use Rattle.etcs_rows.specs.declared.frames.Carrier.TheVariants.{Telegram, Message}
use Rattle.etcs_rows.specs.declared.here.Here.{Here}
use Rattle.etcs_rows.specs.declared.here.Here.TheVariants.{Any, MessageLength, PacketNumber, PacketLength, Row}
use Rattle.etcs_rows.specs.declared.cause.Cause.{Cause}
use Rattle.etcs_rows.specs.declared.cause.Cause.TheVariants.{Spare, Unfit}
use Rattle.etcs_rows.specs.declared.refusal.Refusal.{Refusal}

-- ---- Numbers.

-- a range, both ends included
unfoldable pub range_text : ℕ → ℕ → List ℕ
range_text low high =
    if high - low == 0 then decimal low else
    (if high - low == 1 then decimal low ++ codes " and " ++ decimal high else decimal low ++ codes " to " ++ decimal high)

-- a range after another one
unfoldable pub more_text : ℕ × ℕ → List ℕ
more_text r = codes " or " ++ range_text r.0 r.1

-- ranges one after another
unfoldable pub ranges_text : List (ℕ × ℕ) → List ℕ
ranges_text [] = []
ranges_text (r ∷ rs) = range_text r.0 r.1 ++ flat_map more_text rs

-- the least number that begins with the refusal's bits
unfoldable pub low_of : Refusal → ℕ
low_of r = r.bits * 2 ^ (width r.var - r.count)

-- the greatest one
unfoldable pub high_of : Refusal → ℕ
high_of r = low_of r + (2 ^ (width r.var - r.count) - 1)

-- the number that the bytes have, of several
unfoldable pub there_text : Option ℕ → List ℕ
there_text None = []
there_text (Some n) = codes " (found " ++ decimal n ++ codes ")"

-- the numbers that begin with the refusal's bits, which are several
unfoldable pub span_text : Refusal → List ℕ
span_text r = codes " from " ++ decimal (low_of r) ++ codes " to " ++ decimal (high_of r) ++ there_text r.number

-- the nearest numbers that may come
unfoldable pub nearest_text : Option ℕ → Option ℕ → List ℕ
nearest_text None None = codes "; none fits"
nearest_text None (Some a) = codes "; " ++ decimal a ++ codes " is the least that fits"
nearest_text (Some b) None = codes "; " ++ decimal b ++ codes " is the greatest that fits"
nearest_text (Some b) (Some a) = codes "; " ++ decimal b ++ codes " and " ++ decimal a ++ codes " fit"

-- ---- Why.

-- none is admitted
unfoldable pub admitted_text : Refusal → List ℕ
admitted_text r = name r.var ++ codes " admits " ++ ranges_text (ranges r.var)

-- the number that the bytes have isn't one of those; or none of those begins with the refusal's bits
unfoldable pub not_text : Option ℕ → List ℕ
not_text None = codes ", and no such number begins with these bits"
not_text (Some n) = codes ", not " ++ decimal n

-- none of these numbers fits, which are several
unfoldable pub none_fits_text : List ℕ → Refusal → List ℕ
none_fits_text label r = codes "no " ++ label ++ span_text r ++ codes " fits"

-- the tables have some of these numbers, but they don't fit
unfoldable pub unfit_text : List ℕ → Refusal → List ℕ
unfit_text label r = if low_of r == high_of r then label ++ codes " " ++ decimal (low_of r) ++ codes " doesn't fit" else none_fits_text label r

-- what the bits that are left have to hold besides
unfoldable pub beyond_text : Carrier → List ℕ
beyond_text Telegram = codes ", of which packet 255 needs 8"
beyond_text (Message way) = codes ": the last packet is followed by 0 to 7 bits, any other by at least " ++ decimal (frame_bits way)

-- the bits that are left of what carries packets
unfoldable pub room_text : Carrier → ℕ → List ℕ
room_text c room = codes " into the " ++ decimal room ++ codes " bits that are left" ++ beyond_text c

-- a message has no packet of these numbers
unfoldable pub no_packet_text : Refusal → List ℕ
no_packet_text r =
    if low_of r == high_of r then codes "a message has no packet " ++ decimal (low_of r)
    else codes "a message has no packet" ++ span_text r

-- the packet has none of these lengths, which are several
unfoldable pub no_lengths_text : ℕ → Refusal → List ℕ
no_lengths_text nid r = codes "packet " ++ decimal nid ++ codes " has no length of " ++ decimal (low_of r) ++ codes " to " ++ decimal (high_of r) ++ codes " bits"

-- the packet has no such length
unfoldable pub no_length_text : ℕ → Refusal → List ℕ
no_length_text nid r =
    if low_of r == high_of r then codes "packet " ++ decimal nid ++ codes " has no length of " ++ decimal (low_of r) ++ codes " bits"
    else no_lengths_text nid r ++ there_text r.number

-- a message of this number has other lengths
unfoldable pub message_text : Refusal → List (ℕ × ℕ) → ℕ → List ℕ
message_text r lengths nid = codes "message " ++ decimal nid ++ codes " has " ++ ranges_text lengths ++ codes " bytes" ++ not_text r.number

-- the variable admits other numbers
unfoldable pub spare_text : Refusal → List ℕ
spare_text r = admitted_text r ++ not_text r.number

-- the bits that are left of a packet
unfoldable pub left_text : ℕ → ℕ → List ℕ
left_text nid len =
    if len == 1 then codes " the 1 bit that is left of packet " ++ decimal nid
    else codes " the " ++ decimal len ++ codes " bits that are left of packet " ++ decimal nid

-- at NID_PACKET
unfoldable pub number_text : Refusal → Carrier → ℕ → Cause → List ℕ
number_text r c room Spare = no_packet_text r
number_text r c room (Unfit n) = unfit_text (codes "packet") r ++ room_text c room

-- at L_PACKET
unfoldable pub length_text : Refusal → Carrier → ℕ → ℕ → Cause → List ℕ
length_text r c nid room Spare = no_length_text nid r ++ nearest_text r.below r.above
length_text r c nid room (Unfit n) = unfit_text (name r.var) r ++ room_text c room ++ nearest_text r.below r.above

-- at a variable of a packet's row
unfoldable pub row_text : Refusal → ℕ → ℕ → Cause → List ℕ
row_text r nid len Spare = spare_text r
row_text r nid len (Unfit n) = unfit_text (name r.var) r ++ left_text nid len ++ nearest_text r.below r.above

-- why, where this comes next
unfoldable pub words_at : Refusal → Here → List ℕ
words_at r Any = spare_text r
words_at r (MessageLength way nid) = message_text r (lengths_after way (message_row_to way nid)) nid
words_at r (PacketNumber c room) = number_text r c room r.cause
words_at r (PacketLength c nid room) = length_text r c nid room r.cause
words_at r (Row nid row len) = row_text r nid len r.cause

-- the sentence, with no capital and no full stop
unfoldable pub words : Refusal → List ℕ
words r = words_at r r.here
