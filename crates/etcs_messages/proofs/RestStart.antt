-- What is left of a message at its beginning is a message.
use Rattle.std.proofs.Common.{◌≡◌, ℕ, ◌-◌, ◌*◌, ◌^◌, ◌<◌, ◌≤◌, Bool, true, List, [], ◌∷◌, ◌++◌, length, Some, None, refl, sym, ap, subst, ◌∙◌, arith, append_assoc, append-nil}
use Rattle.std.specs.Prelude.{Option, option_map}
use Rattle.std.proofs.lemmas.Bool.Decides.{nat_tests}
use Rattle.etcs_vars.specs.declared.var.Var.{Var}
use Rattle.etcs_vars.specs.declared.var.Var.TheVariants.{NID_MESSAGE, L_MESSAGE, PADDING, OTHER_DATA}
use Rattle.etcs_vars.specs.Vars.{inside}
use Rattle.etcs_vars.specs.Reading.{Reading, spelled, kept, IsAdmitted}
use Rattle.etcs_vars.proofs.Languages.{Same}
use Rattle.etcs_vars.proofs.Prefixes.{admits_parts, admits_from}
use Rattle.etcs_tables.specs.Layouts.{Layout, Reads}
use Rattle.etcs_tables.specs.declared.row.Way.{Way}
use Rattle.etcs_rows.specs.declared.frames.Carrier.TheVariants.{Message}
use Rattle.etcs_packets.specs.PacketValues.{PacketValue}
use Rattle.etcs_packets.specs.PacketReadings.{readings_to}
use Rattle.etcs_sequence.specs.Contents.{PacketsIn, ReadsPackets}
use Rattle.etcs_reader.specs.Fields.{ReadsFields}
use Rattle.etcs_messages.specs.Messages.{head_reading, front_of, typed_message, kept_message, TypedReads, KeptReads, MessageLanguage}
use Rattle.etcs_messages.specs.Lefts.{own_row, front_after, front_row, front_bits, headed, PacketsFrom, AfterMessageLength, NumberLeft}
use Rattle.etcs_tables.specs.Headers.{head_row}
use Rattle.etcs_messages.proofs.Ways.{header_is}
use Rattle.etcs_messages.proofs.Fields.{fields_append, fields_split, fields_admitted, fields_length, widths_append}
use Rattle.etcs_messages.proofs.Fronts.{as_row, row_fields, fields_row, rows_alike, typed_own, kept_own}

-- a front has as many bits as its variables
front_wide : (way : Way) (own : List Var) (body : Reading) → ReadsFields own body → front_bits (front_after way own) ≡ front_of way body
front_wide way own body reads = let a = fields_length own body reads in let b = header_is way in let d = widths_append (head_row way) own in omega (arith, a, b, d)

-- ---- From a message.

typed_left : (way : Way) (nid : ℕ) (head body : Reading) (vs : List PacketValue) (padding : List Bool) (r : Reading) → TypedReads way nid head body vs padding r → NumberLeft way r
typed_left way nid head body vs padding r t =
    let (own, found, same) = typed_own (own_row way nid) t.row (sym (rows_alike way nid) ∙ t.typed_number) in
    let reads : ReadsFields own body = row_fields own [] body (subst (λ (x : Layout). Reads x [] body) (sym same) t.body_reads) in
    let len = t.len in
    let row = front_after way own in
    let front : Reading = head ++ body in
    let fields : ReadsFields row front = fields_append (head_row way) own head body t.head_reads reads in
    let bits : front_bits row ≡ front_of way body = front_wide way own body reads in
    let p = readings_to way vs in
    let room : 8 * len - front_of way body ≡ 8 * len - front_bits row = omega (arith, bits) in
    let run : PacketsIn (Message way) (8 * len - front_bits row) p = (vs, subst (λ n. ReadsPackets (Message way) n vs p) room t.run) in
    let bytes = t.bytes in
    let fits : front_bits row ≤ 8 * len = omega (arith, bits, bytes) in
    let wide : length padding ≡ 8 * len - front_bits row - length (spelled p) = omega (arith, bits, bytes) in
    let beyond : PacketsFrom way (front_bits row) len (p ++ kept PADDING padding) = (p, kept PADDING padding, refl, run, (padding, wide, refl)) in
    let rest : AfterMessageLength way (Some row) len (front ++ (p ++ kept PADDING padding)) = (fits, (admits_parts L_MESSAGE len t.head_admitted.1.0).1, (front, p ++ kept PADDING padding, refl, fields, beyond)) in
    let is : front_row way nid ≡ Some row = ap (option_map (front_after way)) found in
    let all : r ≡ headed nid len (front ++ (p ++ kept PADDING padding)) = t.reading_is ∙ append_assoc (head_reading nid len head ++ body) p (kept PADDING padding) in
    (nid, (L_MESSAGE, len) ∷ (front ++ (p ++ kept PADDING padding)), (admits_parts NID_MESSAGE nid t.head_admitted.0).1, all, (len, front ++ (p ++ kept PADDING padding), refl, subst (λ (o : Option (List Var)). AfterMessageLength way o len (front ++ (p ++ kept PADDING padding))) (sym is) rest))

kept_left : (way : Way) (nid : ℕ) (b : List Bool) (r : Reading) → KeptReads way nid b r → NumberLeft way r
kept_left way nid b r t =
    let is : front_row way nid ≡ None = ap (option_map (front_after way)) (kept_own (own_row way nid) (sym (rows_alike way nid) ∙ t.untyped)) in
    let bytes = t.bytes in
    let beyond : AfterMessageLength way None t.len (kept OTHER_DATA b) = (t.least, t.most, (b, omega (arith, bytes), refl)) in
    (nid, (L_MESSAGE, t.len) ∷ kept OTHER_DATA b, t.small, t.reading_is, (t.len, kept OTHER_DATA b, refl, subst (λ (o : Option (List Var)). AfterMessageLength way o t.len (kept OTHER_DATA b)) (sym is) beyond))

to_left : (way : Way) (r : Reading) → MessageLanguage way r → NumberLeft way r
to_left way r (typed_message nid head body vs padding, t) = typed_left way nid head body vs padding r t
to_left way r (kept_message nid b, t) = kept_left way nid b r t

-- ---- To a message.

below : (top n : ℕ) → n ≤ top → inside ((0, top) ∷ []) n ≡ true
below top n h = grind (arith, nat_tests)

whole_head : (way : Way) (nid len : ℕ) (head : Reading) → nid < 2 ^ 8 → len < 2 ^ 10 → ReadsFields (head_row way) head → IsAdmitted (head_reading nid len head)
whole_head way nid len head small most reads =
    (admits_from NID_MESSAGE nid (below 255 nid (omega (arith, small))) small, (admits_from L_MESSAGE len (below 1023 len (omega (arith, most))) most, fields_admitted (head_row way) head reads))

from_left : (way : Way) (found : Option (List Var)) (nid len : ℕ) (r rest : Reading) → own_row way nid ≡ found → nid < 2 ^ 8 → r ≡ headed nid len rest → AfterMessageLength way (option_map (front_after way) found) len rest → MessageLanguage way r
from_left way None nid len r rest is small e (least, most, (b, l, f)) = (
  kept_message nid b,
  record {
    len = len;
    untyped = rows_alike way nid ∙ ap (option_map as_row) is;
    small = small;
    least = least;
    most = most;
    bytes = omega (arith, l, least);
    reading_is = e ∙ ap (λ (x : Reading). headed nid len x) f;
  },
)
from_left way (Some own) nid len r rest is small e (fits, most, (front, beyond, f, front_reads, (p, q, e4, (vs, run), (padding, wide, e5)))) =
    let (head, body, cut, head_reads, reads) = fields_split (head_row way) own front front_reads in
    let bits : front_bits (front_after way own) ≡ front_of way body = front_wide way own body reads in
    let packets : p ≡ readings_to way vs = run.reading_is ∙ append-nil (readings_to way vs) in
    let long = ap (λ (x : Reading). length (spelled x)) packets in
    let room : 8 * len - front_bits (front_after way own) ≡ 8 * len - front_of way body = omega (arith, bits) in
    let run' : ReadsPackets (Message way) (8 * len - front_of way body) vs (readings_to way vs) = subst (λ k. ReadsPackets (Message way) k vs (readings_to way vs)) room (subst (λ (x : Reading). ReadsPackets (Message way) (8 * len - front_bits (front_after way own)) vs x) packets run) in
    let inner : length (spelled p) ≤ 8 * len - front_bits (front_after way own) = run.fills.0 in
    let tail : beyond ≡ readings_to way vs ++ kept PADDING padding = e4 ∙ ap (λ (x : Reading). x ++ q) packets ∙ ap (λ (x : Reading). readings_to way vs ++ x) e5 in
    let all : r ≡ (head_reading nid len head ++ body) ++ readings_to way vs ++ kept PADDING padding =
    e ∙ ap (headed nid len) (f ∙ ap (λ (x : Reading). front ++ x) tail ∙ ap (λ (x : Reading). x ++ (readings_to way vs ++ kept PADDING padding)) cut) ∙ sym (append_assoc (head_reading nid len head ++ body) (readings_to way vs) (kept PADDING padding)) in (
      typed_message nid head body vs padding,
      record {
        len = len;
        row = as_row own;
        typed_number = rows_alike way nid ∙ ap (option_map as_row) is;
        body_reads = fields_row own [] body reads;
        head_reads = head_reads;
        head_admitted = whole_head way nid len head small most head_reads;
        run = run';
        bytes = omega (arith, bits, long, wide, inner, fits);
        reading_is = all;
      },
    )

pub new_left : (way : Way) → Same (NumberLeft way) (MessageLanguage way)
new_left way r = (
  λ (nid, q, small, e, (len, rest, f, h)). from_left way (own_row way nid) nid len r rest refl small (e ∙ ap (λ (x : Reading). (NID_MESSAGE, nid) ∷ x) f) h,
  λ h. to_left way r h,
)
