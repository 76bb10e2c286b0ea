-- A refusal has words.
use Rattle.std.proofs.Common.{ℕ, ◌+◌, ◌<◌, ◌==◌, Bool, true, false, List, ◌++◌, length, arith, if◌then◌else◌}
use Rattle.std.specs.Prelude.{codes}
use Rattle.std.specs.Fmt.{decimal}
use Rattle.std.proofs.lemmas.List.{length-append}
use Rattle.etcs_vars.specs.Vars.{ranges, name}
use Rattle.etcs_tables.specs.MessageRows.{lengths_after}
use Rattle.etcs_tables.specs.Rows.{message_row_to}
use Rattle.etcs_rows.specs.declared.frames.Carrier.{Carrier}
use Rattle.etcs_rows.specs.declared.here.Here.{Here}
use Rattle.etcs_rows.specs.declared.here.Here.TheVariants.{Any, MessageLength, PacketNumber, PacketLength, Row}
use Rattle.etcs_rows.specs.declared.cause.Cause.{Cause}
use Rattle.etcs_rows.specs.declared.cause.Cause.TheVariants.{Spare, Unfit}
use Rattle.etcs_rows.specs.declared.refusal.Refusal.{Refusal}
use Rattle.etcs_rows.specs.Words.{ranges_text, low_of, high_of, there_text, span_text, nearest_text, admitted_text, not_text, none_fits_text, unfit_text, room_text, no_packet_text, no_lengths_text, no_length_text, message_text, spare_text, left_text, number_text, length_text, row_text, words_at, words}

front_some : (a b : List ℕ) → 0 < length a → 0 < length (a ++ b)
front_some a b h = omega (arith, h, length-append a b)

back_some : (a b : List ℕ) → 0 < length b → 0 < length (a ++ b)
back_some a b h = omega (arith, h, length-append a b)

if_some : (c : Bool) (a b : List ℕ) → 0 < length a → 0 < length b → 0 < length (if c then a else b)
if_some true a b h k = h
if_some false a b h k = k

admitted_some : (r : Refusal) → 0 < length (admitted_text r)
unfolding admitted_text
admitted_some r = front_some (name r.var ++ codes " admits ") (ranges_text (ranges r.var)) (back_some (name r.var) (codes " admits ") (omega arith))

none_fits_some : (label : List ℕ) (r : Refusal) → 0 < length (none_fits_text label r)
unfolding none_fits_text
none_fits_some label r = back_some (codes "no " ++ label ++ span_text r) (codes " fits") (omega arith)

unfit_some : (label : List ℕ) (r : Refusal) → 0 < length (unfit_text label r)
unfolding unfit_text
unfit_some label r =
    if_some (low_of r == high_of r) (label ++ codes " " ++ decimal (low_of r) ++ codes " doesn't fit") (none_fits_text label r)
    (back_some (label ++ codes " " ++ decimal (low_of r)) (codes " doesn't fit") (omega arith))
    (none_fits_some label r)

no_packet_some : (r : Refusal) → 0 < length (no_packet_text r)
unfolding no_packet_text
no_packet_some r =
    if_some (low_of r == high_of r) (codes "a message has no packet " ++ decimal (low_of r)) (codes "a message has no packet" ++ span_text r)
    (front_some (codes "a message has no packet ") (decimal (low_of r)) (omega arith))
    (front_some (codes "a message has no packet") (span_text r) (omega arith))

no_lengths_some : (nid : ℕ) (r : Refusal) → 0 < length (no_lengths_text nid r)
unfolding no_lengths_text
no_lengths_some nid r = back_some (codes "packet " ++ decimal nid ++ codes " has no length of " ++ decimal (low_of r) ++ codes " to " ++ decimal (high_of r)) (codes " bits") (omega arith)

no_length_some : (nid : ℕ) (r : Refusal) → 0 < length (no_length_text nid r)
unfolding no_length_text
no_length_some nid r =
    if_some (low_of r == high_of r) (codes "packet " ++ decimal nid ++ codes " has no length of " ++ decimal (low_of r) ++ codes " bits") (no_lengths_text nid r ++ there_text r.number)
    (back_some (codes "packet " ++ decimal nid ++ codes " has no length of " ++ decimal (low_of r)) (codes " bits") (omega arith))
    (front_some (no_lengths_text nid r) (there_text r.number) (no_lengths_some nid r))

message_some : (r : Refusal) (lengths : List (ℕ × ℕ)) (nid : ℕ) → 0 < length (message_text r lengths nid)
unfolding message_text
message_some r lengths nid = front_some (codes "message " ++ decimal nid ++ codes " has " ++ ranges_text lengths ++ codes " bytes") (not_text r.number) (back_some (codes "message " ++ decimal nid ++ codes " has " ++ ranges_text lengths) (codes " bytes") (omega arith))

spare_some : (r : Refusal) → 0 < length (spare_text r)
unfolding spare_text
spare_some r = front_some (admitted_text r) (not_text r.number) (admitted_some r)

number_some : (r : Refusal) (carrier : Carrier) (room : ℕ) (c : Cause) → 0 < length (number_text r carrier room c)
unfolding number_text
number_some r carrier room Spare = no_packet_some r
number_some r carrier room (Unfit n) = front_some (unfit_text (codes "packet") r) (room_text carrier room) (unfit_some (codes "packet") r)

length_some : (r : Refusal) (carrier : Carrier) (nid room : ℕ) (c : Cause) → 0 < length (length_text r carrier nid room c)
unfolding length_text
length_some r carrier nid room Spare = front_some (no_length_text nid r) (nearest_text r.below r.above) (no_length_some nid r)
length_some r carrier nid room (Unfit n) = front_some (unfit_text (name r.var) r ++ room_text carrier room) (nearest_text r.below r.above) (front_some (unfit_text (name r.var) r) (room_text carrier room) (unfit_some (name r.var) r))

row_some : (r : Refusal) (nid len : ℕ) (c : Cause) → 0 < length (row_text r nid len c)
unfolding row_text
row_some r nid len Spare = spare_some r
row_some r nid len (Unfit n) = front_some (unfit_text (name r.var) r ++ left_text nid len) (nearest_text r.below r.above) (front_some (unfit_text (name r.var) r) (left_text nid len) (unfit_some (name r.var) r))

at_some : (r : Refusal) (h : Here) → 0 < length (words_at r h)
unfolding words_at
at_some r Any = spare_some r
at_some r (MessageLength way nid) = message_some r (lengths_after way (message_row_to way nid)) nid
at_some r (PacketNumber c room) = number_some r c room r.cause
at_some r (PacketLength c nid room) = length_some r c nid room r.cause
at_some r (Row nid row len) = row_some r nid len r.cause

pub words_some : (r : Refusal) → 0 < length (words r)
unfolding words
words_some r = at_some r r.here
