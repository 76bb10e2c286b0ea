-- The bits of an item, part by part, as they are put.
use Rattle.std.proofs.Common.{◌≡◌, ℕ, ◌+◌, ◌*◌, ◌/◌, ◌%◌, ◌^◌, ◌≤◌, ◌<◌, Bool, List, [], ◌∷◌, ◌++◌, length, drop, Some, None, refl, sym, ap, ◌∙◌, append_assoc, append-nil, arith}
use Rattle.std.specs.Prelude.{All, IsTrue}
use Rattle.std.proofs.lemmas.Bool.Decides.{nat_tests}
use Rattle.std.proofs.lemmas.List.{drop_at, length-append}
use Rattle.std.proofs.lemmas.List.Elements.{All-nil, All-cons, All-head, All-tail}
use Rattle.etcs_bits.specs.Bits.{num}
use Rattle.etcs_bits.proofs.ByteBits.{num_low}
use Rattle.etcs_bits.proofs.Numbers.{length-num, num-add}
use Rattle.etcs_vars.specs.declared.var.Var.{Var}
use Rattle.etcs_vars.specs.Vars.{admits, width}
use Rattle.etcs_vars.specs.declared.var.Var.TheVariants.{NID_MESSAGE, L_MESSAGE, PADDING, OTHER_DATA}
use Rattle.etcs_vars.specs.Reading.{Reading, spelled, kept, IsAdmitted}
use Rattle.etcs_tables.specs.declared.row.Way.{Way}
use Rattle.etcs_tables.specs.Layouts.{Layout, Reads}
use Rattle.etcs_tables.specs.Rows.{message_row_to}
use Rattle.etcs_tables.specs.Headers.{head_row}
use Rattle.etcs_rows.specs.declared.frames.Carrier.TheVariants as carrier
use Rattle.etcs_packets.specs.PacketValues.{PacketValue, marker, typed, IsPacket, IsPacketTo, nid_of}
use Rattle.etcs_packets.specs.PacketValues as packet
use Rattle.etcs_packets.specs.PacketReadings.{packets_reading, readings_to}
use Rattle.etcs_reader.specs.Fields.{ReadsFields}
use Rattle.etcs_sequence.specs.Contents.{Carries, IsUnmarked}
use Rattle.etcs_sequence.specs.laws.BitLaws.{bits_spelled}
use Rattle.etcs_sequence.specs.laws.Framed.{framed_unmarked, typed_framed}
use Rattle.etcs_sequence.specs.laws.Others.{kept_framed, kept_parts}
use Rattle.etcs_telegram.specs.declared.size.Size.{Size}
use Rattle.etcs_telegram.specs.Telegrams.{HeaderValue, TelegramReads, TelegramValue, header_reading, pad_bits, user_bits}
use Rattle.etcs_telegram.specs.Writing.{telegram_reading}
use Rattle.etcs_telegram.proofs.Encoding.{closed_length, telegram_bits}
use Rattle.etcs_messages.specs.Messages.{front_of, kept_message, typed_message}
use Rattle.etcs_messages.proofs.Bytes.{one_bits, typed_length}
use Rattle.etcs_messages.proofs.Fields.{fields_admitted, headed_length}
use Rattle.etcs_messages.proofs.Ways.{row_small}
use Rattle.etcs_json_trees.proofs.WrittenRows.{both_put}
use Rattle.etcs_json.specs.Puts.{Completes, IsWhole, rest_of}

-- ---- A telegram.

-- the telegram of these parts
abbrev pub put_of : Size → HeaderValue → List PacketValue → List Bool → TelegramValue
put_of size h vs fill = record { size = size; header = h; packets = vs; fill = fill }

-- header, packets vs, packet 255, FILL and zeros; ws are packets of the same lengths
pub telegram_put : (size : Size) (h : HeaderValue) (vs ws : List PacketValue) (fill : List Bool) (zero one two three four five : List Bool)
    → IsAdmitted (header_reading h) → All IsPacket ws → length (spelled (packets_reading ws)) ≡ length (spelled (packets_reading vs)) → zero ≡ [] → one ≡ zero ++ spelled (header_reading h) → two ≡ one ++ spelled (packets_reading vs) → three ≡ two ++ num 8 255 → length three + length fill ≡ user_bits size → four ≡ three ++ fill → five ≡ four ++ num (pad_bits size) 0
    → TelegramReads (put_of size h ws fill) (telegram_reading (put_of size h ws fill)) × (five ≡ spelled (telegram_reading (put_of size h vs fill)))
telegram_put size h vs ws fill zero one two three four five a p same e0 e1 e2 e3 room e4 e5 =
    let x = spelled (header_reading h) in
    let y = spelled (packets_reading vs) in
    let n = num 8 255 in
    let z = num (pad_bits size) 0 in
    let first : one ≡ x = e1 ∙ ap (λ (b : List Bool). b ++ x) e0 in
    let closed : three ≡ (x ++ y) ++ n = e3 ∙ ap (λ (b : List Bool). b ++ n) (e2 ∙ ap (λ (b : List Bool). b ++ y) first) in
    let all : five ≡ (((x ++ y) ++ n) ++ fill) ++ z = e5 ∙ ap (λ (b : List Bool). b ++ z) (e4 ∙ ap (λ (b : List Bool). b ++ fill) closed) in
    let long : length three ≡ length x + length y + 8 = ap (λ (b : List Bool). length b) closed ∙ length-append (x ++ y) n ∙ (λ i. length-append x y i + length-num 8 255 i) in (
      record {
        header_admitted = a;
        packets_hold = p;
        reading_is = refl;
        user_bits_is = omega (arith, room, long, same, closed_length ws);
      },
      all ∙ sym (telegram_bits (put_of size h vs fill)),
    )

-- ---- A message.

-- NID_MESSAGE and L_MESSAGE as one number
frame_number : (nid len : ℕ) → len < 2 ^ 10 → num 18 (nid * 1024 + len) ≡ num 8 nid ++ num 10 len
frame_number nid len few =
    let all = nid * 1024 + len in
    let high : all / 2 ^ 10 ≡ nid = omega (arith, few) in
    let low : all % 2 ^ 10 ≡ len % 2 ^ 10 = omega arith in
    num-add 8 10 all
    ∙ ap (λ (k : ℕ). num 8 k ++ num 10 all) high
    ∙ ap (λ (t : List Bool). num 8 nid ++ t) (num_low 10 all len low)

-- zeros for the frame, and what is after it
pub framed : (r : Reading) (zero one two : List Bool) → zero ≡ [] → one ≡ zero ++ num 18 0 → two ≡ one ++ spelled r → two ≡ num 18 0 ++ spelled r
framed r zero one two e0 e1 e2 = e2 ∙ ap (λ (x : List Bool). x ++ spelled r) (e1 ∙ ap (λ (x : List Bool). x ++ num 18 0) e0)

-- the frame put over zeros
pub frame_put : (nid : ℕ) (r : Reading) (two over : List Bool) → two ≡ num 18 0 ++ spelled r → IsWhole two → over ≡ num 18 (nid * 1024 + length two / 8) ++ drop 18 two
    → (over ≡ spelled ((NID_MESSAGE, nid) ∷ (L_MESSAGE, length two / 8) ∷ r)) × (18 + length (spelled r) ≡ 8 * (length two / 8)) × (length two / 8 < 2 ^ 10)
frame_put nid r two over all (whole, most) is =
    let z = num 18 0 in
    let b = spelled r in
    let len = length two / 8 in
    let long : length two ≡ 18 + length b = ap (λ (x : List Bool). length x) all ∙ length-append z b ∙ ap (λ (n : ℕ). n + length b) (length-num 18 0) in
    let few : len < 2 ^ 10 = omega (arith, most) in
    let beyond : drop 18 two ≡ b = ap (drop 18) all ∙ drop_at z b 18 (length-num 18 0) in (
      is ∙ (λ i. frame_number nid len few i ++ beyond i) ∙ append_assoc (num 8 nid) (num 10 len) b,
      omega (arith, long, whole),
      few,
    )

-- one that is kept as bits
pub kept_completes : (way : Way) (nid : ℕ) (b : List Bool) → message_row_to way nid ≡ None → nid < 2 ^ 8 → Completes way nid (kept_message nid b) (kept OTHER_DATA b)
kept_completes way nid b untyped small = λ len bytes few. record {
  len = len;
  untyped = untyped;
  small = small;
  least = omega (arith, bytes);
  most = few;
  bytes = omega (arith, bytes, one_bits b);
  reading_is = refl;
}

-- bits that are put are those of a variable each
pub kept_put : (v : Var) (b zero one : List Bool) → width v ≡ 1 → one ≡ zero ++ b → one ≡ zero ++ spelled (kept v b)
kept_put v b zero one single e = e ∙ ap (λ (x : List Bool). zero ++ x) (sym (bits_spelled v b single))

-- packets of messages
pub unmarked : (way : Way) (v : PacketValue) → IsPacketTo way v → ((n : ℕ) → v ≡ marker n → ⊥) → IsUnmarked way (nid_of v)
unmarked way (marker n) h other = absurd (other n refl)
unmarked way (typed nid dir r) (row, is, going, reads, few) other = framed_unmarked way nid (typed_framed way nid row is)
unmarked way (packet.kept nid dir b) h other = framed_unmarked way nid (kept_framed way nid (kept_parts way nid dir (length b) h).0)

pub carried : (way : Way) (vs : List PacketValue) → All (IsPacketTo way) vs → All (λ v. (n : ℕ) → v ≡ marker n → ⊥) vs → All (Carries (carrier.Message way)) vs
carried way [] h k = All-nil (Carries (carrier.Message way))
carried way (v ∷ vs) h k =
    let first = All-head (IsPacketTo way) v vs h in
    let other = All-head (λ v. (n : ℕ) → v ≡ marker n → ⊥) v vs k in
    All-cons (Carries (carrier.Message way)) v vs (first, unmarked way v first other) (carried way vs (All-tail (IsPacketTo way) v vs h) (All-tail (λ v. (n : ℕ) → v ≡ marker n → ⊥) v vs k))

number_admitted : (n : ℕ) → n < 2 ^ 8 → IsTrue (admits NID_MESSAGE n)
number_admitted n h = grind (arith, nat_tests)

length_admitted : (n : ℕ) → n < 2 ^ 10 → IsTrue (admits L_MESSAGE n)
length_admitted n h = grind (arith, nat_tests)

-- how long it is
pub typed_long : (way : Way) (nid : ℕ) (head body : Reading) (vs : List PacketValue) (padding : List Bool) → ReadsFields (head_row way) head → 18 + length (spelled (rest_of way (typed_message nid head body vs padding))) ≡ front_of way body + length (spelled (readings_to way vs)) + length padding
typed_long way nid head body vs padding fields = sym (headed_length nid 0 (rest_of way (typed_message nid head body vs padding))) ∙ typed_length way nid 0 head body vs padding fields

pub typed_completes : (way : Way) (nid : ℕ) (row : Layout) (head body : Reading) (vs : List PacketValue) (padding : List Bool) → message_row_to way nid ≡ Some row → Reads row [] body → ReadsFields (head_row way) head → All (Carries (carrier.Message way)) vs → length padding ≤ 7 → Completes way nid (typed_message nid head body vs padding) (rest_of way (typed_message nid head body vs padding))
typed_completes way nid row head body vs padding found reads fields packets short = λ len bytes few.
    (let all = typed_long way nid head body vs padding fields in
    record {
      len = len;
      row = row;
      typed_number = found;
      body_reads = reads;
      head_reads = fields;
      head_admitted = (number_admitted nid (row_small way nid row found), (length_admitted len few, fields_admitted (head_row way) head fields));
      run = record {
        carried = packets;
        reading_is = sym (append-nil (readings_to way vs));
        fills = (omega (arith, all, bytes), omega (arith, all, bytes, short));
      };
      bytes = omega (arith, all, bytes);
      reading_is = refl;
    })

pub typed_put : (way : Way) (nid : ℕ) (head body : Reading) (vs : List PacketValue) (padding : List Bool) (zero one two three four : List Bool) → one ≡ zero ++ spelled head → two ≡ one ++ spelled body → three ≡ two ++ spelled (readings_to way vs) → four ≡ three ++ spelled (kept PADDING padding) → four ≡ zero ++ spelled (rest_of way (typed_message nid head body vs padding))
typed_put way nid head body vs padding zero one two three four e1 e2 e3 e4 =
    let p = readings_to way vs in
    both_put (head ++ body ++ p) (kept PADDING padding) zero three four (both_put (head ++ body) p zero two three (both_put head body zero one two e1 e2) e3) e4
