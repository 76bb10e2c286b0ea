-- How long the text of an item can be.
use Rattle.std.proofs.Common.{◌≡◌, ℕ, ◌+◌, ◌*◌, ◌^◌, ◌<◌, ◌≤◌, Bool, false, List, [], ◌∷◌, ◌++◌, length, flat_map, map, refl, ap, subst, ◌∙◌, arith, decimal}
use Rattle.std.specs.Prelude.{codes, replicate}
use Rattle.std.proofs.lemmas.List.{length-append}
use Rattle.json.specs.Print.{escape_byte, quoted}
use Rattle.serde_json.specs.Written.{compact_text}
use Rattle.etcs_bits.specs.Bits.{bits}
use Rattle.etcs_bits.proofs.Positions.{length-bits}
use Rattle.etcs_vars.specs.declared.var.Var.TheVariants.{NID_PACKET, NID_MESSAGE, L_MESSAGE, FILL, PADDING, PAD}
use Rattle.etcs_vars.specs.Reading.{Reading, spelled, kept}
use Rattle.etcs_vars.proofs.Apart.{AllFit}
use Rattle.etcs_packets.specs.PacketValues.{PacketValue}
use Rattle.etcs_packets.specs.PacketReadings.{readings_to, packets_reading}
use Rattle.etcs_tables.specs.declared.row.Way.{Way}
use Rattle.etcs_tables.specs.declared.row.Way.TheVariants.{ToTrain, ToTrack}
use Rattle.etcs_messages.specs.Messages.{MessageValue, typed_message, kept_message, MessageReads, TypedReads, head_reading}
use Rattle.etcs_messages.proofs.Bytes.{typed_length, kept_length}
use Rattle.etcs_messages.proofs.Fields.{head_bits, head_length}
use Rattle.etcs_messages.proofs.Spelling.{regular as messages}
use Rattle.etcs_telegram.specs.declared.size.Size.{Size}
use Rattle.etcs_telegram.specs.declared.size.Size.TheVariants as size
use Rattle.etcs_telegram.specs.Telegrams.{TelegramValue, TelegramReads, header_reading, closed_reading, user_bits, pad_bits}
use Rattle.etcs_telegram.proofs.Spellings.{regular, whole_length}
use Rattle.etcs_text.specs.Encodings.{IsEncoded, check_line}
use Rattle.etcs_text.specs.Entries.{EntryValue, of_telegram, of_message, Spells, entry_bits, entry_text}
use Rattle.etcs_text.specs.Messages.{message_bits, message_bytes, message_line, front_variables, after_lines, message_text}
use Rattle.etcs_packet_text.specs.Packets.{packets_text}
use Rattle.etcs_packet_text.specs.Trees.{packets_tree, pairs_tree}
use Rattle.etcs_text.specs.Trees.{json_tree, message_tree, telegram_tree}
use Rattle.etcs_packet_text.specs.Show.{variable_line, bit_digit, bits_line, fill_line}
use Rattle.etcs_packet_text.proofs.TextLengths.{decimal_short, digits_long, fit_after, fit_front, joined_long, length-sent, line_short, packets_json_short, packets_short, pairs_json_short, small_number, spelled_long, total, variables_short}
use Rattle.etcs_text.specs.Show.{item_line, kind_word, way_word}
use Rattle.etcs_text.specs.Telegrams.{show_text}

-- ---- A telegram.

user_short : (s : Size) → user_bits s ≤ 830
user_short size.Short = omega arith
user_short size.Long = omega arith

whole_short : (s : Size) → user_bits s + pad_bits s ≤ 832
whole_short size.Short = omega arith
whole_short size.Long = omega arith

kind_short : (s : Size) → length (kind_word s) ≤ 5
kind_short size.Short = omega arith
kind_short size.Long = omega arith

pub six_long : (a b c d e f : List ℕ) → length (a ++ b ++ c ++ d ++ e ++ f) ≡ length a + length b + length c + length d + length e + length f
six_long a b c d e f =
    let v = length-append (a ++ b ++ c ++ d ++ e) f in
    let w = length-append (a ++ b ++ c ++ d) e in
    let x = length-append (a ++ b ++ c) d in
    let y = length-append (a ++ b) c in
    let z = length-append a b in
    omega (arith, v, w, x, y, z)

pub five_long : (a b c d e : List ℕ) → length (a ++ b ++ c ++ d ++ e) ≡ length a + length b + length c + length d + length e
five_long a b c d e = let l = six_long a b c d e [] in omega (arith, l, length-append (a ++ b ++ c ++ d ++ e) [])

item_short : (s : Size) (item : ℕ) → item < 2 ^ 64 → length (item_line s item) ≤ 64
item_short s item h =
    let d = decimal_short item h in
    let e = decimal_short (user_bits s) (omega (arith, user_short s)) in
    let l = length-append (codes "item " ++ decimal item ++ codes " " ++ kind_word s ++ codes " " ++ decimal (user_bits s)) (codes " bits\n") in
    let m = six_long (codes "item ") (decimal item) (codes " ") (kind_word s) (codes " ") (decimal (user_bits s)) in
    omega (arith, d, e, l, m, kind_short s)

-- packet 255
abbrev closing : Reading
closing = (NID_PACKET, 255) ∷ []

pub reading_fit : (t : TelegramValue) (r : Reading) → TelegramReads t r → AllFit (header_reading t.header) × AllFit (packets_reading t.packets)
reading_fit t r x =
    let head = header_reading t.header in
    let packets = packets_reading t.packets in
    let fill = kept FILL t.fill in
    let zeros = kept PAD (replicate (pad_bits t.size) false) in
    let whole : AllFit r = let language = regular t.size in language.fit r (t, (refl, x)) in
    let parts : AllFit (((head ++ closed_reading t.packets) ++ fill) ++ zeros) = subst AllFit x.reading_is whole in
    let headed = fit_front (head ++ closed_reading t.packets) fill (fit_front ((head ++ closed_reading t.packets) ++ fill) zeros parts) in
    (fit_front head (closed_reading t.packets) headed, fit_front packets closing (fit_after head (closed_reading t.packets) headed))

telegram_short : (t : TelegramValue) (r : Reading) (item : ℕ) → TelegramReads t r → item < 2 ^ 64 → length (show_text t item) ≤ 2 ^ 20
unfolding show_text
telegram_short t r item x h =
    let fits = reading_fit t r x in
    let line = item_short t.size item h in
    let header = variables_short (header_reading t.header) fits.0 in
    let packets = packets_short ToTrain t.packets fits.1 in
    let closed = spelled_long (packets_reading t.packets) closing in
    let user = user_short t.size in
    let small : length t.fill ≤ 830 = omega (arith, x.user_bits_is, user) in
    let fill = line_short (codes "FILL") t.fill (omega (arith, small)) (omega arith) in
    let l = five_long (item_line t.size item) (flat_map variable_line (header_reading t.header)) (packets_text ToTrain t.packets) (codes "packet 255\n") (fill_line t.fill) in
    omega (arith, line, header, packets, closed, user, x.user_bits_is, fill, l)

-- ---- A message.

three_long : (a b c : List ℕ) → length (a ++ b ++ c) ≡ length a + length b + length c
three_long a b c = omega (arith, length-append (a ++ b) c, length-append a b)

word_short : (way : Way) → length (way_word way) ≤ 5
word_short ToTrain = omega arith
word_short ToTrack = omega arith

message_line_short : (way : Way) (bits item : ℕ) → bits ≤ 8192 → item < 2 ^ 64 → length (message_line way bits item) ≤ 64
message_line_short way bits item small h =
    let d = decimal_short item h in
    let e = decimal_short bits (omega (arith, small)) in
    let l = length-append (codes "item " ++ decimal item ++ codes " " ++ way_word way ++ codes " " ++ decimal bits) (codes " bits\n") in
    let m = six_long (codes "item ") (decimal item) (codes " ") (way_word way) (codes " ") (decimal bits) in
    omega (arith, d, e, l, m, word_short way)

-- its bits are those of L_MESSAGE bytes
pub whole_message : (way : Way) (m : MessageValue) (r : Reading) → MessageReads way m r → (message_bits way m < 8192) × (8 * message_bytes way m ≡ message_bits way m) × (length (spelled r) ≡ message_bits way m)
whole_message way (typed_message nid head body vs padding) r x =
    let language = messages way in
    let whole : AllFit r = language.fit r (typed_message nid head body vs padding, x) in
    let parts : AllFit (((head_reading nid x.len head ++ body) ++ readings_to way vs) ++ kept PADDING padding) = subst AllFit x.reading_is whole in
    let len : x.len < 2 ^ 10 = parts.1.0 in
    let all = ap (λ (q : Reading). length (spelled q)) x.reading_is ∙ typed_length way nid x.len head body vs padding x.head_reads in
    (omega (arith, x.bytes, len), omega (arith, x.bytes), all)
whole_message way (kept_message nid b) r x =
    let all = ap (λ (q : Reading). length (spelled q)) x.reading_is ∙ kept_length nid x.len b in
    (omega (arith, x.bytes, x.most), omega (arith, x.bytes), all)

-- L_MESSAGE is that of the reading
bytes_same : (way : Way) (nid : ℕ) (head body : Reading) (vs : List PacketValue) (padding : List Bool) (r : Reading) (x : TypedReads way nid head body vs padding r) → x.len ≡ message_bytes way (typed_message nid head body vs padding)
bytes_same way nid head body vs padding r x = omega (arith, x.bytes)

-- the numbers of the parts fit
typed_fit : (way : Way) (nid : ℕ) (head body : Reading) (vs : List PacketValue) (padding : List Bool) (r : Reading) (x : TypedReads way nid head body vs padding r) → AllFit (head_reading nid x.len head ++ body) × AllFit (readings_to way vs)
typed_fit way nid head body vs padding r x =
    let front = head_reading nid x.len head ++ body in
    let language = messages way in
    let whole : AllFit r = language.fit r (typed_message nid head body vs padding, x) in
    let parts : AllFit ((front ++ readings_to way vs) ++ kept PADDING padding) = subst AllFit x.reading_is whole in
    let both = fit_front (front ++ readings_to way vs) (kept PADDING padding) parts in
    (fit_front front (readings_to way vs) both, fit_after front (readings_to way vs) both)

front_fit : (way : Way) (m : MessageValue) (r : Reading) → MessageReads way m r → AllFit (front_variables way m)
front_fit way (typed_message nid head body vs padding) r x =
    let front = typed_fit way nid head body vs padding r x in
    subst (λ (k : ℕ). AllFit (head_reading nid k head ++ body)) (bytes_same way nid head body vs padding r x) front.0
front_fit way (kept_message nid b) r x =
    let len : message_bytes way (kept_message nid b) ≡ x.len = omega (arith, x.bytes) in
    (x.small, (omega (arith, len, x.most), tt))

after_short : (way : Way) (m : MessageValue) (r : Reading) → MessageReads way m r → length (after_lines way m) + 128 * length (spelled (front_variables way m)) ≤ 128 * message_bits way m + 256
after_short way (typed_message nid head body vs padding) r x =
    let fits = typed_fit way nid head body vs padding r x in
    let w = whole_message way (typed_message nid head body vs padding) r x in
    let len = message_bytes way (typed_message nid head body vs padding) in
    let front = spelled_long (head_reading nid len head) body in
    let packets = packets_short way vs fits.1 in
    let small : length padding ≤ 8192 = omega (arith, w.0) in
    let closed = line_short (codes "PADDING") padding (omega (arith, small)) (omega arith) in
    let l = three_long (packets_text way vs) (codes "end\n") (bits_line (codes "PADDING") padding) in
    omega (arith, front, head_length way nid len head x.head_reads, packets, closed, l)
after_short way (kept_message nid b) r x =
    let len = message_bytes way (kept_message nid b) in
    let k = length-sent NID_MESSAGE nid ((L_MESSAGE, len) ∷ []) in
    let j = length-sent L_MESSAGE len [] in
    let w = whole_message way (kept_message nid b) r x in
    let small : length b ≤ 8192 = omega (arith, w.0) in
    let closed = line_short (codes "OTHER_DATA") b (omega (arith, small)) (omega arith) in
    omega (arith, k, j, closed)

message_short : (way : Way) (m : MessageValue) (r : Reading) (item : ℕ) → MessageReads way m r → item < 2 ^ 64 → length (message_text way m item) ≤ 2 ^ 20
unfolding message_text
message_short way m r item x h =
    let w = whole_message way m r x in
    let bits : message_bits way m ≤ 8184 = omega (arith, w.0, w.1) in
    let line = message_line_short way (message_bits way m) item (omega (arith, bits)) h in
    let front = variables_short (front_variables way m) (front_fit way m r x) in
    let beyond = after_short way m r x in
    let l = three_long (message_line way (message_bits way m) item) (flat_map variable_line (front_variables way m)) (after_lines way m) in
    omega (arith, bits, line, front, beyond, l)

-- ---- JSON.

word_json_short : (way : Way) → length (quoted (way_word way)) ≤ 7
unfolding escape_byte
word_json_short ToTrain = omega arith
word_json_short ToTrack = omega arith

kind_json_short : (s : Size) → length (quoted (kind_word s)) ≤ 7
unfolding escape_byte
kind_json_short size.Short = omega arith
kind_json_short size.Long = omega arith

telegram_json_short : (t : TelegramValue) (r : Reading) → TelegramReads t r → length (compact_text (telegram_tree t)) ≤ 524288
unfolding escape_byte
telegram_json_short t r x =
    let fits = reading_fit t r x in
    let header = pairs_json_short (header_reading t.header) fits.0 in
    let packets = packets_json_short ToTrain t.packets fits.1 in
    let parts = codes "{\"fill\":" ∷ quoted (map bit_digit t.fill) ∷ codes ",\"header\":" ∷ compact_text (pairs_tree (header_reading t.header)) ∷ codes ",\"kind\":" ∷ quoted (kind_word t.size) ∷ codes ",\"packets\":" ∷ compact_text (packets_tree ToTrain t.packets) ∷ codes "}" ∷ [] in
    let l : length (compact_text (telegram_tree t)) ≡ total parts = joined_long parts in
    omega (arith, l, header, packets, digits_long t.fill, kind_json_short t.size, spelled_long (packets_reading t.packets) closing, x.user_bits_is, user_short t.size)

message_json_short : (way : Way) (m : MessageValue) (r : Reading) → MessageReads way m r → length (compact_text (message_tree way m)) ≤ 524288
unfolding escape_byte
message_json_short way (typed_message nid head body vs padding) r x =
    let m = typed_message nid head body vs padding in
    let w = whole_message way m r x in
    let fits = typed_fit way nid head body vs padding r x in
    let headed = fit_front (head_reading nid x.len head) body fits.0 in
    let fields = pairs_json_short body (fit_after (head_reading nid x.len head) body fits.0) in
    let header = pairs_json_short head headed.1.1 in
    let packets = packets_json_short way vs fits.1 in
    let parts = codes "{\"fields\":" ∷ compact_text (pairs_tree body) ∷ codes ",\"header\":" ∷ compact_text (pairs_tree head) ∷ codes ",\"kind\":" ∷ quoted (way_word way) ∷ codes ",\"nid\":" ∷ decimal nid ∷ codes ",\"packets\":" ∷ compact_text (packets_tree way vs) ∷ codes ",\"padding\":" ∷ quoted (map bit_digit padding) ∷ codes "}" ∷ [] in
    let l : length (compact_text (message_tree way m)) ≡ total parts = joined_long parts in
    omega (arith, l, fields, header, packets, word_json_short way, digits_long padding, decimal_short nid (small_number NID_MESSAGE nid headed.0), head_bits way head x.head_reads, w.0, w.1)
message_json_short way (kept_message nid b) r x =
    let w = whole_message way (kept_message nid b) r x in
    let parts = codes "{\"data\":" ∷ quoted (map bit_digit b) ∷ codes ",\"kind\":" ∷ quoted (way_word way) ∷ codes ",\"nid\":" ∷ decimal nid ∷ codes "}" ∷ [] in
    let l : length (compact_text (message_tree way (kept_message nid b))) ≡ total parts = joined_long parts in
    omega (arith, l, digits_long b, word_json_short way, decimal_short nid (omega (arith, x.small)), w.0)

-- the JSON of one item
pub json_short : (e : EntryValue) (r : Reading) → Spells e r → length (compact_text (json_tree e)) ≤ 524288
json_short (of_telegram t) r x = telegram_json_short t r x
json_short (of_message way m) r x = message_json_short way m r x

-- ---- What is written of an item.

bits_small : (e : EntryValue) (r : Reading) → Spells e r → entry_bits e < 8192
bits_small (of_telegram t) r x = omega (arith, user_short t.size)
bits_small (of_message way m) r x = (whole_message way m r x).0

pub check_short : (e : EntryValue) (r : Reading) (item : ℕ) → Spells e r → item < 2 ^ 64 → length (check_line e item) ≤ 64
check_short e r item x h =
    let d = decimal_short item h in
    let b = decimal_short (entry_bits e) (omega (arith, bits_small e r x)) in
    let l = five_long (codes "item ") (decimal item) (codes " ok ") (decimal (entry_bits e)) (codes " bits\n") in
    omega (arith, d, b, l)

spelled_short : (e : EntryValue) (r : Reading) → Spells e r → length (spelled r) ≤ 8192
spelled_short (of_telegram t) r x = let whole = whole_length t.size r (t, (refl, x)) in omega (arith, whole, whole_short t.size)
spelled_short (of_message way m) r x = let w = whole_message way m r x in omega (arith, w.0, w.2)

pub encoded_short : (e : EntryValue) (bytes : List ℕ) → IsEncoded e bytes → length bytes ≤ 1024
encoded_short e bytes x =
    let is : length (bits bytes) ≡ length (spelled x.reading) = ap length x.bits_are in
    omega (arith, spelled_short e x.reading x.reads, is, length-bits bytes)

pub entry_short : (e : EntryValue) (r : Reading) (item : ℕ) → Spells e r → item < 2 ^ 64 → length (entry_text e item) ≤ 2 ^ 20
entry_short (of_telegram t) r item x h = telegram_short t r item x h
entry_short (of_message way m) r item x h = message_short way m r item x h
