-- Items in which a packet that is typed by now may be kept as bits: their parts, their bits, and how many these are.
use Rattle.std.proofs.Common.{◌≡◌, ℕ, ◌+◌, ◌*◌, ◌/◌, ◌%◌, ◌^◌, ◌<◌, Bool, true, false, List, [], ◌∷◌, ◌++◌, length, drop, map, refl, sym, ap, subst, ◌∙◌, arith}
use Rattle.std.specs.Prelude.{All}
use Rattle.std.proofs.lemmas.List.Elements.{All-cons, All-head, All-map, All-nil, All-tail, All-weaker}
use Rattle.serde_json.specs.Data.{Data}
use Rattle.std.proofs.lemmas.List.{length-append}
use Rattle.etcs_bits.specs.Bits.{num}
use Rattle.etcs_bits.proofs.Numbers.{length-num}
use Rattle.etcs_vars.specs.declared.var.Var.TheVariants.{NID_PACKET, NID_MESSAGE, L_MESSAGE, L_PACKET, OTHER_DATA}
use Rattle.etcs_vars.specs.Reading.{Reading, kept, spelled}
use Rattle.etcs_vars.proofs.Prefixes.{admits_parts}
use Rattle.etcs_vars.proofs.Sent.{length-sent}
use Rattle.etcs_tables.specs.declared.row.Way.{Way}
use Rattle.etcs_tables.specs.declared.row.Way.TheVariants.{ToTrain, ToTrack}
use Rattle.etcs_tables.specs.Frames.{directed, frame_bits}
use Rattle.etcs_rows.specs.declared.frames.Carrier.TheVariants as carrier
use Rattle.etcs_packets.specs.PacketValues as packet
use Rattle.etcs_packets.specs.PacketValues.{PacketValue, marker, typed, IsPacketTo}
use Rattle.etcs_packets.specs.PacketReadings.{packets_reading, reading_to, readings_to}
use Rattle.etcs_packets.proofs.PacketBits.{length-spelled}
use Rattle.etcs_sequence.specs.Contents.{Carries, IsUnmarked}
use Rattle.etcs_telegram.specs.Telegrams.{TelegramReads, TelegramValue, header_reading, pad_bits, user_bits}
use Rattle.etcs_telegram.specs.Writing.{telegram_reading}
use Rattle.etcs_telegram.proofs.Encoding.{telegram_bits, whole_bytes}
use Rattle.etcs_telegram.proofs.Spellings.{whole_length}
use Rattle.etcs_messages.specs.Messages.{MessageValue, MessageReads, kept_message, typed_message}
use Rattle.etcs_messages.proofs.Bytes.{one_bits}
use Rattle.etcs_messages.proofs.Fields.{headed_length}
use Rattle.etcs_text.specs.declared.entry.Kind.{Kind}
use Rattle.etcs_text.specs.Entries.{EntryValue, kind_of, of_message, of_telegram, message_kind}
use Rattle.etcs_json_trees.specs.Loose.{IsLoosePacket, stand_in, unnamed}
use Rattle.etcs_json.specs.Loose.{HasLength, IsStored, LooseSpells, unnamed_message, unnamed_telegram}
use Rattle.etcs_json.specs.Puts.{HasParts, IsWhole, nid_of, rest_of}
use Rattle.etcs_json.specs.TreeReading.{IsMessageTree}
use Rattle.etcs_json.proofs.ItemLengths.{message_long, telegram_long}
use Rattle.etcs_json.proofs.PutItems.{frame_put, kept_completes, typed_completes, typed_long, unmarked}

-- ---- Packets with stand-ins.

same_one : (way : Way) (v : PacketValue) → length (spelled (reading_to way (unnamed way v))) ≡ length (spelled (reading_to way v))
same_one way (marker n) = refl
same_one way (typed nid dir r) = refl
same_one way (packet.kept nid dir b) =
    let rest = directed way dir ((L_PACKET, frame_bits way + length b) ∷ kept OTHER_DATA b) in
    length-sent NID_PACKET (stand_in way nid) rest ∙ sym (length-sent NID_PACKET nid rest)

-- they are as long as with their own numbers
pub same_long : (way : Way) (vs : List PacketValue) → length (spelled (readings_to way (map (unnamed way) vs))) ≡ length (spelled (readings_to way vs))
same_long way [] = refl
same_long way (v ∷ vs) =
    let a = length-spelled (reading_to way (unnamed way v)) (readings_to way (map (unnamed way) vs)) in
    let b = length-spelled (reading_to way v) (readings_to way vs) in
    omega (arith, a, b, same_one way v, same_long way vs)

marker_itself : (way : Way) (v : PacketValue) (n : ℕ) → unnamed way v ≡ marker n → v ≡ marker n
marker_itself way (marker m) n e = e
marker_itself way (typed nid dir r) n e = absurd cc
marker_itself way (packet.kept nid dir b) n e = absurd cc

no_marker : (way : Way) (v : PacketValue) → IsPacketTo way (unnamed way v) → IsUnmarked way (packet.nid_of (unnamed way v)) → (n : ℕ) → v ≡ marker n → ⊥
no_marker ToTrain (marker m) h k n e = omega (arith, k)
no_marker ToTrack (marker m) h k n e = absurd cc
no_marker way (typed nid dir r) h k n e = absurd cc
no_marker way (packet.kept nid dir b) h k n e = absurd cc

-- what all packets with stand-ins have, those without have
of_named : (way : Way) (P Q : PacketValue → Type 0) → ((v : PacketValue) → P (unnamed way v) → Q v) → (vs : List PacketValue) → All P (map (unnamed way) vs) → All Q vs
of_named way P Q from [] h = All-nil Q
of_named way P Q from (v ∷ vs) h = All-cons Q v vs (from v (All-head P (unnamed way v) (map (unnamed way) vs) h)) (of_named way P Q from vs (All-tail P (unnamed way v) (map (unnamed way) vs) h))

pub telegram_packets : (vs : List PacketValue) → All (IsPacketTo ToTrain) (map (unnamed ToTrain) vs) → All (IsLoosePacket ToTrain true) vs
telegram_packets vs h = of_named ToTrain (IsPacketTo ToTrain) (IsLoosePacket ToTrain true) (λ v p. (p, λ e. absurd cc)) vs h

pub message_packets : (way : Way) (vs : List PacketValue) → All (Carries (carrier.Message way)) (map (unnamed way) vs) → All (IsLoosePacket way false) vs
message_packets way vs h = of_named way (Carries (carrier.Message way)) (IsLoosePacket way false) (λ v p. (p.0, λ e. no_marker way v p.0 p.1)) vs h

pub named_packets : (way : Way) (has_marker : Bool) (vs : List PacketValue) → All (IsLoosePacket way has_marker) vs → All (IsPacketTo way) (map (unnamed way) vs)
named_packets way has_marker vs h = All-map (IsPacketTo way) (unnamed way) vs (All-weaker (IsLoosePacket way has_marker) (λ v. IsPacketTo way (unnamed way v)) (λ v p. p.0) vs h)

carried_packets : (way : Way) (vs : List PacketValue) → All (IsLoosePacket way false) vs → All (Carries (carrier.Message way)) (map (unnamed way) vs)
carried_packets way vs h = All-map (Carries (carrier.Message way)) (unnamed way) vs (All-weaker (IsLoosePacket way false) (λ v. Carries (carrier.Message way) (unnamed way v)) (λ v p. (p.0, unmarked way (unnamed way v) p.0 (λ n e. p.1 refl n (marker_itself way v n e)))) vs h)

-- ---- Messages.

pub parts_of : (way : Way) (m : MessageValue) (q : Reading) → MessageReads way (unnamed_message way m) q → HasParts way m
parts_of way (typed_message nid head body vs padding) q x = (x.row, x.typed_number, x.body_reads, x.head_reads, message_packets way vs x.run.carried, omega (arith, x.bytes, x.run.fills.0, x.run.fills.1))
parts_of way (kept_message nid b) q x = (x.untyped, x.small)

-- how many bytes it has
pub message_bytes : (way : Way) (m : MessageValue) (q : Reading) → MessageReads way (unnamed_message way m) q → (len : ℕ) × (18 + length (spelled (rest_of way m)) ≡ 8 * len) × (len < 2 ^ 10)
message_bytes way (typed_message nid head body vs padding) q x = (x.len, omega (arith, typed_long way nid head body vs padding x.head_reads, x.bytes, same_long way vs), (admits_parts L_MESSAGE x.len x.head_admitted.1.0).1)
message_bytes way (kept_message nid b) q x = (x.len, omega (arith, x.bytes, one_bits b), x.most)

-- a message of such parts, whose bits are whole bytes
pub message_stored : (way : Way) (m : MessageValue) (d : Data) (two new : List Bool) → HasParts way m → IsMessageTree way m d → two ≡ num 18 0 ++ spelled (rest_of way m) → IsWhole two → new ≡ num 18 (nid_of m * 1024 + length two / 8) ++ drop 18 two → IsStored (message_kind way) d (of_message way m) new
message_stored way (typed_message nid head body vs padding) d two new (row, found, reads, fields, packets, short) tree is whole over =
    let rest = rest_of way (typed_message nid head body vs padding) in
    let ws = map (unnamed way) vs in
    let put = frame_put nid rest two new is whole over in
    let len = length two / 8 in
    let own = typed_long way nid head body vs padding fields in
    let named = typed_long way nid head body ws padding fields in
    record {
      loose = ((NID_MESSAGE, nid) ∷ (L_MESSAGE, len) ∷ rest_of way (typed_message nid head body ws padding), (refl, typed_completes way nid row head body ws padding found reads fields (carried_packets way vs packets) short len (omega (arith, own, named, same_long way vs, put.1)) put.2));
      tree = tree;
      bits = (len, omega (arith, own, put.1), put.0);
    }
message_stored way (kept_message nid b) d two new (untyped, small) tree is whole over =
    let put = frame_put nid (kept OTHER_DATA b) two new is whole over in
    let len = length two / 8 in
    record {
      loose = ((NID_MESSAGE, nid) ∷ (L_MESSAGE, len) ∷ kept OTHER_DATA b, (refl, kept_completes way nid b untyped small len put.1 put.2));
      tree = tree;
      bits = (len, omega (arith, put.1, one_bits b), put.0);
    }

-- ---- How many bits there are.

framed_long : (way : Way) (nid len : ℕ) (rest : Reading) (b : List Bool) → b ≡ spelled ((NID_MESSAGE, nid) ∷ (L_MESSAGE, len) ∷ rest) → 18 + length (spelled rest) ≡ 8 * len → len < 2 ^ 10 → HasLength (message_kind way) b × (length b % 8 ≡ 0)
framed_long way nid len rest b is bytes few =
    let q : Reading = (NID_MESSAGE, nid) ∷ (L_MESSAGE, len) ∷ rest in
    let long : length (spelled q) ≡ 8 * len = headed_length nid len rest ∙ bytes in
    (subst (λ (x : List Bool). HasLength (message_kind way) x) (sym is) (message_long way q nid len rest refl few long), omega (arith, ap (λ (x : List Bool). length x) is, long))

message_long_at : (way : Way) (m : MessageValue) (q : Reading) (b : List Bool) → MessageReads way (unnamed_message way m) q → LooseSpells (of_message way m) b → HasLength (message_kind way) b × (length b % 8 ≡ 0)
message_long_at way (typed_message nid head body vs padding) q b x (len, bytes, is) =
    let (most, long, few) = message_bytes way (typed_message nid head body vs padding) q x in
    let own = typed_long way nid head body vs padding x.head_reads in
    framed_long way nid len (rest_of way (typed_message nid head body vs padding)) b is (omega (arith, own, bytes)) (omega (arith, own, bytes, long, few))
message_long_at way (kept_message nid c) q b x (len, bytes, is) = framed_long way nid len (kept OTHER_DATA c) b is (omega (arith, bytes, one_bits c)) (omega (arith, bytes, x.bytes, x.most))

reading_long : (t : TelegramValue) → length (spelled (telegram_reading t)) ≡ length (spelled (header_reading t.header)) + length (spelled (packets_reading t.packets)) + 8 + length t.fill + pad_bits t.size
reading_long t =
    let x = spelled (header_reading t.header) in
    let y = spelled (packets_reading t.packets) in
    let n = num 8 255 in
    let z = num (pad_bits t.size) 0 in
    omega (arith, ap (λ (b : List Bool). length b) (telegram_bits t), length-append (((x ++ y) ++ n) ++ t.fill) z, length-append ((x ++ y) ++ n) t.fill, length-append (x ++ y) n, length-append x y, length-num 8 255, length-num (pad_bits t.size) 0)

telegram_long_at : (t : TelegramValue) (r : Reading) (b : List Bool) → TelegramReads (unnamed_telegram t) r → LooseSpells (of_telegram t) b → HasLength (kind_of t.size) b × (length b % 8 ≡ 0)
telegram_long_at t r b x is =
    let whole = whole_length t.size r (unnamed_telegram t, (refl, x)) in
    let long : length b ≡ user_bits t.size + pad_bits t.size =
    omega (arith, whole, ap (λ (c : List Bool). length c) is, ap (λ (q : Reading). length (spelled q)) x.reading_is, reading_long t, reading_long (unnamed_telegram t), same_long ToTrain t.packets) in
    (telegram_long t.size b long, omega (arith, long, whole_bytes t.size))

-- the bits of such an item are as many as those of the items that may begin with them
pub stored_long : (kind : Kind) (d : Data) (o : EntryValue) (b : List Bool) → IsStored kind d o b → HasLength kind b × (length b % 8 ≡ 0)
stored_long kind d (of_telegram t) b s =
    let both = telegram_long_at t s.loose.0 b s.loose.1.1 s.bits in
    (subst (λ (k : Kind). HasLength k b) s.loose.1.0 both.0, both.1)
stored_long kind d (of_message way m) b s =
    let both = message_long_at way m s.loose.0 b s.loose.1.1 s.bits in
    (subst (λ (k : Kind). HasLength k b) s.loose.1.0 both.0, both.1)
