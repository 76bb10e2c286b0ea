-- How long messages are, and what holds of all of them.
use Rattle.std.proofs.Common.{◌≡◌, ℕ, ◌+◌, ◌*◌, ◌%◌, ◌<◌, ◌≤◌, List, Bool, false, [], ◌∷◌, ◌++◌, length, refl, ap, ◌∙◌, arith}
use Rattle.std.proofs.lemmas.List.{length-append}
use Rattle.etcs_vars.specs.declared.var.Var.TheVariants.{NID_MESSAGE, L_MESSAGE, PADDING, OTHER_DATA}
use Rattle.etcs_vars.specs.Reading.{Reading, spelled, kept, readings_of}
use Rattle.etcs_vars.proofs.Prefixes.{admits_parts}
use Rattle.etcs_vars.specs.laws.Spellings.{spelled-append}
use Rattle.etcs_bits.specs.Bits.{num}
use Rattle.etcs_bits.proofs.Numbers.{length-num}
use Rattle.etcs_packets.specs.PacketValues.{PacketValue, Form}
use Rattle.etcs_packets.specs.PacketReadings.{readings_to}
use Rattle.etcs_reader.specs.Rests.{Goes}
use Rattle.etcs_sequence.specs.laws.BitLaws.{bits_spelled}
use Rattle.etcs_messages.specs.declared.message.Content.{Content}
use Rattle.etcs_messages.specs.declared.message.Content.TheVariants.{Typed, Kept}
use Rattle.etcs_messages.specs.Messages.{values_of, MessageValue, typed_message, kept_message, MessageReads, MessageLanguage, head_reading, IsMessage, message_value, all_bits, padding_room, front_of}
use Rattle.etcs_messages.specs.Readings.{bytes_of}
use Rattle.etcs_messages.specs.Kinds.{HeadOf, OwnOf}
use Rattle.etcs_tables.specs.Headers.{head_row}
use Rattle.etcs_messages.proofs.Ways.{header_least, none_typed}
use Rattle.etcs_messages.proofs.Fields.{headed_length, head_length}
use Rattle.etcs_tables.specs.declared.row.Way.{Way}
use Rattle.etcs_reader.specs.Fields.{ReadsFields}

-- bits of one-bit variables
pub one_bits : (b : List Bool) → length (spelled (kept OTHER_DATA b)) ≡ length b
one_bits b = ap length (bits_spelled OTHER_DATA b refl)

pub pad_bits : (b : List Bool) → length (spelled (kept PADDING b)) ≡ length b
pad_bits b = ap length (bits_spelled PADDING b refl)

pub typed_length : (way : Way) (nid len : ℕ) (h : Reading) (body : Reading) (vs : List PacketValue) (padding : List Bool) → ReadsFields (head_row way) h → length (spelled (head_reading nid len h ++ body ++ readings_to way vs ++ kept PADDING padding)) ≡ front_of way body + length (spelled (readings_to way vs)) + length padding
typed_length way nid len h body vs padding reads =
    let a = head_reading nid len h in
    let p = readings_to way vs in
    let k = kept PADDING padding in
    let l1 = ap length (spelled-append (a ++ body ++ p) k) ∙ length-append (spelled (a ++ body ++ p)) (spelled k) in
    let l2 = ap length (spelled-append (a ++ body) p) ∙ length-append (spelled (a ++ body)) (spelled p) in
    let l3 = ap length (spelled-append a body) ∙ length-append (spelled a) (spelled body) in
    omega (arith, l1, l2, l3, head_length way nid len h reads, pad_bits padding)

pub kept_length : (nid len : ℕ) (b : List Bool) → length (spelled ((NID_MESSAGE, nid) ∷ (L_MESSAGE, len) ∷ kept OTHER_DATA b)) ≡ 18 + length b
kept_length nid len b = headed_length nid len (kept OTHER_DATA b) ∙ ap (λ (n : ℕ). 18 + n) (one_bits b)

-- L_MESSAGE counts the bytes
pub reads_length : (way : Way) (v : MessageValue) (r : Reading) → MessageReads way v r → (len : ℕ) × (length (spelled r) ≡ 8 * len) × (len ≤ 1023)
reads_length way (typed_message nid h body vs padding) r t =
    let l = ap (λ (q : Reading). length (spelled q)) t.reading_is ∙ typed_length way nid t.len h body vs padding t.head_reads in
    (t.len, omega (arith, l, t.bytes), (let s = (admits_parts L_MESSAGE t.len t.head_admitted.1.0).1 in omega (arith, s)))
reads_length way (kept_message nid b) r k =
    let l = ap (λ (q : Reading). length (spelled q)) k.reading_is ∙ kept_length nid k.len b in
    (k.len, omega (arith, l, k.bytes), omega (arith, k.most))

pub message_bytes : (way : Way) (r : Reading) → readings_of (MessageReads way) r → (length (spelled r) % 8 ≡ 0) × (length (spelled r) ≤ 8 * 1023)
message_bytes way r (v, m) = let (len, l, few) = reads_length way v r m in (omega (arith, l), omega (arith, l, few))

pub some_bits : (way : Way) (r : Reading) → MessageLanguage way r → 0 < length (spelled r)
some_bits way r (typed_message nid h body vs padding, t) = (let least = header_least way in omega (arith, least, ap (λ (q : Reading). length (spelled q)) t.reading_is ∙ typed_length way nid t.len h body vs padding t.head_reads))
some_bits way r (kept_message nid b, k) = omega (arith, ap (λ (q : Reading). length (spelled q)) k.reading_is ∙ kept_length nid k.len b)

pub bits_counted : {H B P : Type 0} (way : Way) (hd : HeadOf H) (bd : OwnOf B) (form : P → Form) (m : Content H B P) (r : Reading) → IsMessage way hd bd form m → MessageReads way (message_value way hd bd form m) r → length (spelled r) ≡ 8 * bytes_of way bd form m
bits_counted way hd bd form (Typed head body ps padding) r i t =
    let room = padding_room (all_bits way bd form body ps) in
    let l = ap (λ (q : Reading). length (spelled q)) t.reading_is ∙ typed_length way (bd.nid body) t.len (hd.reading head) (bd.reading body) (values_of form ps) (num room padding) t.head_reads in
    omega (arith, l, t.bytes, length-num room padding)
bits_counted way hd bd form (Kept nid b) r i k = omega (arith, ap (λ (q : Reading). length (spelled q)) k.reading_is ∙ kept_length nid k.len b, k.bytes)

-- three bytes of a number that isn't typed
pub some_message : (way : Way) → Goes (MessageLanguage way)
some_message way = (
  (NID_MESSAGE, 0) ∷ (L_MESSAGE, 3) ∷ kept OTHER_DATA (false ∷ false ∷ false ∷ false ∷ false ∷ false ∷ []),
  (kept_message 0 (false ∷ false ∷ false ∷ false ∷ false ∷ false ∷ []), record { len = 3; untyped = none_typed way; small = omega arith; least = omega arith; most = omega arith; bytes = refl; reading_is = refl }),
)
