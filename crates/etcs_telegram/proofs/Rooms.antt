-- A header and packets begin a telegram exactly if room for packet 255 is left.
use Rattle.std.proofs.Common.{◌≡◌, ℕ, ◌+◌, ◌-◌, ◌≤◌, Bool, true, List, [], ◌∷◌, ◌++◌, length, refl, sym, ap, ◌∙◌, arith, append_assoc}
use Rattle.std.specs.Prelude.{All, replicate}
use Rattle.std.proofs.lemmas.List.{length-replicate}
use Rattle.std.proofs.lemmas.List.Elements.{All-head, All-tail}
use Rattle.etcs_vars.specs.declared.var.Var.TheVariants.{NID_PACKET, FILL}
use Rattle.etcs_vars.specs.Reading.{Sent, Reading, spelled, kept, Viable, IsAdmitted}
use Rattle.etcs_vars.proofs.Apart.{Agree, apart}
use Rattle.etcs_vars.specs.laws.Spellings.{spelled-append}
use Rattle.etcs_rows.proofs.LengthLemmas.{length-spelled}
use Rattle.etcs_tables.specs.declared.row.Way.TheVariants.{ToTrain}
use Rattle.etcs_packets.specs.PacketValues.{PacketValue, IsPacket}
use Rattle.etcs_packets.specs.PacketReadings.{packet_reading, packets_reading}
use Rattle.etcs_sequence.specs.laws.Agreement.{packet_agree, packet_fit, numbered_below}
use Rattle.etcs_telegram.specs.declared.size.Size.{Size}
use Rattle.etcs_telegram.specs.Telegrams.{HeaderValue, TelegramValue, TelegramReads, TelegramLanguage, RoomRule, header_reading, closed_reading, user_bits}
use Rattle.etcs_telegram.specs.Writing.{telegram_reading}
use Rattle.etcs_telegram.proofs.HeaderLemmas.{header_length, admitted_fit}
use Rattle.etcs_telegram.proofs.Spellings.{header_agree, zeros}
use Rattle.etcs_telegram.proofs.Encoding.{closed_length}

both_spelled : (a b : Reading) (c : List Bool) → spelled (a ++ b) ++ c ≡ spelled a ++ (spelled b ++ c)
both_spelled a b c = ap (λ (s : List Bool). s ++ c) (spelled-append a b) ∙ append_assoc (spelled a) (spelled b) c

-- a packet isn't where packet 255 is
numbers_apart : (n : ℕ) (r : Reading) → ◌≡◌ {A = Reading} ((NID_PACKET, n) ∷ r) ((NID_PACKET, 255) ∷ []) → n ≡ 255
numbers_apart n r e = let first : ◌≡◌ {A = Sent} (NID_PACKET, n) (NID_PACKET, 255) = cc in ap (λ (p : Sent). p.1) first

closed_apart : (v : PacketValue) (c d : List Bool) → IsPacket v → spelled (packet_reading v) ++ c ≡ spelled ((NID_PACKET, 255) ∷ []) ++ d → ⊥
closed_apart v c d h e =
    let b = numbered_below v h in
    let same : Agree (packet_reading v) ((NID_PACKET, 255) ∷ []) = rw b.2 (refl, λ f. absurd (let n : b.0 ≡ 255 = ap (λ (p : Sent). p.1) f in omega (arith, n, b.3))) in
    let parts = apart (packet_reading v) ((NID_PACKET, 255) ∷ []) c d same (packet_fit ToTrain v h) (omega arith, tt) e in
    let n = numbers_apart b.0 b.1 (sym b.2 ∙ parts.0) in
    omega (arith, n, b.3)

-- packets that begin the bits of others and packet 255 have room for packet 255
closed_room : (vs us : List PacketValue) (c d : List Bool) → All IsPacket vs → All IsPacket us → spelled (packets_reading vs) ++ c ≡ spelled (closed_reading us) ++ d → length (spelled (packets_reading vs)) + 8 ≤ length (spelled (closed_reading us))
closed_room [] us c d hv hu e = omega (arith, closed_length us)
closed_room (v ∷ vs) [] c d hv hu e =
    absurd (closed_apart v (spelled (packets_reading vs) ++ c) d (All-head IsPacket v vs hv) (sym (both_spelled (packet_reading v) (packets_reading vs) c) ∙ e))
closed_room (v ∷ vs) (u ∷ us) c d hv hu e =
    let iv = All-head IsPacket v vs hv in
    let iu = All-head IsPacket u us hu in
    let split : closed_reading (u ∷ us) ≡ packet_reading u ++ closed_reading us = append_assoc (packet_reading u) (packets_reading us) ((NID_PACKET, 255) ∷ []) in
    let e' : spelled (packet_reading v) ++ (spelled (packets_reading vs) ++ c) ≡ spelled (packet_reading u) ++ (spelled (closed_reading us) ++ d) =
    sym (both_spelled (packet_reading v) (packets_reading vs) c) ∙ e ∙ ap (λ (r : Reading). spelled r ++ d) split ∙ both_spelled (packet_reading u) (closed_reading us) d in
    let parts = apart (packet_reading v) (packet_reading u) (spelled (packets_reading vs) ++ c) (spelled (closed_reading us) ++ d) (packet_agree ToTrain v u iv iu) (packet_fit ToTrain v iv) (packet_fit ToTrain u iu) e' in
    let rest = closed_room vs us c d (All-tail IsPacket v vs hv) (All-tail IsPacket u us hu) parts.1 in
    let first : length (spelled (packet_reading v)) ≡ length (spelled (packet_reading u)) = ap (λ (r : Reading). length (spelled r)) parts.0 in
    let l1 = length-spelled (packet_reading v) (packets_reading vs) in
    let l2 : length (spelled (closed_reading (u ∷ us))) ≡ length (spelled (packet_reading u)) + length (spelled (closed_reading us)) = ap (λ (r : Reading). length (spelled r)) split ∙ length-spelled (packet_reading u) (closed_reading us) in
    omega (arith, rest, first, l1, l2)

headed_length : (h : HeaderValue) (vs : List PacketValue) → length (spelled (header_reading h ++ packets_reading vs)) ≡ 50 + length (spelled (packets_reading vs))
headed_length h vs = length-spelled (header_reading h) (packets_reading vs) ∙ ap (λ (k : ℕ). k + length (spelled (packets_reading vs))) (header_length h)

-- what begins a telegram leaves the room
room_needed : (size : Size) (h : HeaderValue) (vs : List PacketValue) → IsAdmitted (header_reading h) → All IsPacket vs → Viable (TelegramLanguage size) (spelled (header_reading h ++ packets_reading vs)) → length (spelled (header_reading h ++ packets_reading vs)) + 8 ≤ user_bits size
room_needed size h vs admitted packets (r, c, (t, (st, x)), e) =
    let head = header_reading h in
    let head' = header_reading t.header in
    let fill = kept FILL t.fill in
    let beyond = spelled fill ++ spelled (zeros t.size) in
    let sent = packets_reading vs in
    let closed = closed_reading t.packets in
    let cut : spelled (((head' ++ closed) ++ fill) ++ zeros t.size) ≡ spelled head' ++ (spelled closed ++ beyond) =
    spelled-append ((head' ++ closed) ++ fill) (zeros t.size) ∙ both_spelled (head' ++ closed) fill (spelled (zeros t.size)) ∙ both_spelled head' closed beyond in
    let whole : spelled head ++ (spelled sent ++ c) ≡ spelled head' ++ (spelled closed ++ beyond) = sym (both_spelled head sent c) ∙ sym e ∙ ap spelled x.reading_is ∙ cut in
    let parts = apart head head' (spelled sent ++ c) (spelled closed ++ beyond) (header_agree h t.header) (admitted_fit head admitted) (admitted_fit head' x.header_admitted) whole in
    let room = closed_room vs t.packets c beyond packets x.packets_hold parts.1 in
    let user : user_bits t.size ≡ user_bits size = ap user_bits st in
    omega (arith, room, headed_length h vs, header_length t.header, x.user_bits_is, user)

-- the telegram with ones in the room that is left
room_enough : (size : Size) (h : HeaderValue) (vs : List PacketValue) → IsAdmitted (header_reading h) → All IsPacket vs → length (spelled (header_reading h ++ packets_reading vs)) + 8 ≤ user_bits size → Viable (TelegramLanguage size) (spelled (header_reading h ++ packets_reading vs))
room_enough size h vs admitted packets le =
    let sent = packets_reading vs in
    let left = user_bits size - (58 + length (spelled sent)) in
    let t : TelegramValue = record { size = size; header = h; packets = vs; fill = replicate left true } in
    let user : length (spelled (header_reading h)) + length (spelled (closed_reading vs)) + length (replicate left true) ≡ user_bits size =
    omega (arith, le, headed_length h vs, header_length h, closed_length vs, length-replicate left true) in
    let reads : TelegramReads t (telegram_reading t) = record { header_admitted = admitted; packets_hold = packets; reading_is = refl; user_bits_is = user } in
    let closing : Reading = (NID_PACKET, 255) ∷ [] in
    let fill = kept FILL (replicate left true) in
    let beyond = spelled closing ++ (spelled fill ++ spelled (zeros size)) in
    let cut : spelled (telegram_reading t) ≡ spelled (header_reading h ++ sent) ++ beyond =
    spelled-append ((header_reading h ++ closed_reading vs) ++ fill) (zeros size)
    ∙ both_spelled (header_reading h ++ closed_reading vs) fill (spelled (zeros size))
    ∙ ap (λ (r : Reading). spelled r ++ (spelled fill ++ spelled (zeros size))) (sym (append_assoc (header_reading h) sent closing))
    ∙ both_spelled (header_reading h ++ sent) closing (spelled fill ++ spelled (zeros size)) in
    (telegram_reading t, beyond, (t, (refl, reads)), cut)

pub room_rule : RoomRule
room_rule size h vs admitted packets = (room_needed size h vs admitted packets, room_enough size h vs admitted packets)
