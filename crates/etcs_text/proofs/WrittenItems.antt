-- Items that are written as the bytes before them spell them.
use Rattle.std.proofs.Common.{◌≡◌, ℕ, ◌+◌, ◌-◌, ◌*◌, ◌≤◌, Bool, true, List, ◌++◌, length, take, Result, Ok, Err, Some, refl, sym, ap, subst, ◌∙◌, arith}
use Rattle.std.specs.Prelude.{IfOk, IsTrue, OnOk}
use Rattle.std.proofs.lemmas.List.{length-take, take-take, take_all, take_at}
use Rattle.etcs_bits.specs.Bits.{bits, num, part}
use Rattle.etcs_bits.proofs.Lists.{length-part}
use Rattle.etcs_bits.proofs.Owned.{bits-take}
use Rattle.etcs_bits.proofs.Positions.{length-bits}
use Rattle.etcs_vars.specs.Reading.{IsOutcome, Reading, done, spelled, IsAdmitted}
use Rattle.etcs_tables.specs.declared.row.Way.{Way}
use Rattle.etcs_rows.specs.declared.frames.Carrier.{Carrier}
use Rattle.etcs_rows.specs.declared.frames.Carrier.TheVariants as carrier
use Rattle.etcs_packets.specs.PacketValues.{Form, PacketValue}
use Rattle.etcs_sequence.specs.AtOnce.{RunAt}
use Rattle.etcs_messages.specs.declared.message.Content.{Content}
use Rattle.etcs_messages.specs.declared.message.Content.TheVariants.{Kept, Typed}
use Rattle.etcs_messages.specs.Kinds.{HeadOf, OwnOf}
use Rattle.etcs_messages.specs.Messages.{MessageValue, all_bits, kept_message, message_value, padding_room, typed_message, values_of}
use Rattle.etcs_messages.specs.Readings.{body_of, head_of, kept_of, nid_of_message, packets_of, padding_bits_of, padding_of}
use Rattle.etcs_messages.specs.Outlines.{BeginsWith}
use Rattle.etcs_telegram.specs.declared.size.Size.{Size}
use Rattle.etcs_telegram.specs.Telegrams.{HeaderValue, container_bytes, header_reading, packet_room, pad_bits, user_bits}
use Rattle.etcs_telegram.proofs.Encoding.{room_more}
use Rattle.etcs_telegram.proofs.WholeTelegram.{ReadsFront, seen_reads}
use Rattle.etcs_packet_text.specs.Fronts.{Begins}
use Rattle.etcs_packet_text.specs.Rooms.{RoomHas}
use Rattle.etcs_text.specs.declared.entry.Kind.{Kind}
use Rattle.etcs_text.specs.Entries.{EntryReads, EntryValue, kind_of, message_kind, of_message, of_telegram}
use Rattle.etcs_text.specs.Messages.{message_bits}
use Rattle.etcs_text.proofs.TextLengths.{whole_message}

-- the first n bytes of a piece spell this item
abbrev pub Spelled : Kind → List ℕ → ℕ → EntryValue → Type 0
Spelled kind piece n e = (r : Reading) × EntryReads kind e r × (spelled r ≡ part 0 (8 * n) (bits piece))

-- the telegram of a header, the packets of its room and what follows them
pub telegram_spelled : (size : Size) (piece : List ℕ) (room : ℕ) (header : HeaderValue) (vs : List PacketValue) (fill : List Bool) → container_bytes size ≤ length piece → room ≡ packet_room size → IsAdmitted (header_reading header) → spelled (header_reading header) ≡ part 0 50 (bits piece) → part (user_bits size) (pad_bits size) (bits piece) ≡ num (pad_bits size) 0 → RoomHas carrier.Telegram room (bits piece) 50 vs fill → Spelled (kind_of size) piece (container_bytes size) (of_telegram (record { size = size; header = header; packets = vs; fill = fill }))
telegram_spelled size piece room header vs fill long room_is admitted front zeros has =
    let xs = bits piece in
    let user = user_bits size in
    let place : 50 + (room - has.left) ≡ user - has.left = omega (arith, has.run.within, room_is, room_more size) in
    let fill_is : fill ≡ part (user - has.left) has.left xs = has.after_is ∙ ap (λ (k : ℕ). part k has.left xs) place in
    let seen = seen_reads size piece has.left room user (λ us f k. us ≡ vs) long room_is refl has.run fill fill_is header admitted front zeros in
    let (r, reads, is) = subst (λ (us : List PacketValue). ReadsFront size piece (record { size = size; header = header; packets = us; fill = fill })) has.run.held seen in
    (r, (ap kind_of reads.0, reads.1), is)

-- a message with the packets of its room and what follows them
pub typed_begins : (way : Way) (xs : List Bool) (bytes front nid : ℕ) (head body : Reading) (vs : List PacketValue) (padding : List Bool) → front ≤ 8 * bytes → ((us : List PacketValue) (left : ℕ) → RunAt (carrier.Message way) (8 * bytes - front) (λ ws f k. ws ≡ us) xs front left → BeginsWith way xs bytes (typed_message nid head body us (part (8 * bytes - left) left xs))) → RoomHas (carrier.Message way) (8 * bytes - front) xs front vs padding → BeginsWith way xs bytes (typed_message nid head body vs padding)
typed_begins way xs bytes front nid head body vs padding order begins has =
    let place : front + (8 * bytes - front - has.left) ≡ 8 * bytes - has.left = omega (arith, has.run.within, order) in
    let is : padding ≡ part (8 * bytes - has.left) has.left xs = has.after_is ∙ ap (λ (k : ℕ). part k has.left xs) place in
    subst (λ (b : List Bool). BeginsWith way xs bytes (typed_message nid head body vs b)) (sym is) (begins vs has.left has.run)

-- how many bits it has
pub bits_counted : (way : Way) (xs : List Bool) (bytes : ℕ) (m : MessageValue) → 8 * bytes ≤ length xs → BeginsWith way xs bytes m → 8 * bytes ≡ message_bits way m
bits_counted way xs bytes m inside (r, reads, is) =
    let whole = whole_message way m r reads in
    let long = ap length is ∙ length-part 0 (8 * bytes) xs (omega (arith, inside)) in
    omega (arith, long, whole.2)

pub message_spelled : (way : Way) (piece : List ℕ) (bytes : ℕ) (m : MessageValue) → BeginsWith way (bits piece) bytes m → Spelled (message_kind way) piece bytes (of_message way m)
message_spelled way piece bytes m (r, reads, is) = (r, (refl, reads), is)

-- an item with which the first bytes begin is one with which all begin
pub spelled_outcome : (kind : Kind) (bytes : List ℕ) (m n : ℕ) (e : EntryValue) → m ≤ length bytes → n ≤ m → Spelled kind (take m bytes) n e → IsOutcome (EntryReads kind) (bits bytes) (done e (8 * n))
spelled_outcome kind bytes m n e inside short (r, reads, is) =
    let same : spelled r ≡ take (8 * n) (bits bytes) = is ∙ ap (take (8 * n)) (bits-take bytes m inside) ∙ take-take (8 * n) (8 * m) (bits bytes) (omega (arith, short)) in
    (omega (arith, length-bits bytes, inside, short), r, reads, same)

-- ---- What calls return.

-- the same room
pub room_same : (c d : Carrier) (room space : ℕ) (p q : List ℕ) (at from : ℕ) (vs : List PacketValue) (beyond : List Bool) → c ≡ d → room ≡ space → p ≡ q → at ≡ from → RoomHas c room (bits p) at vs beyond → RoomHas d space (bits q) from vs beyond
room_same c d room space p q at from vs beyond e f g h has =
    subst (λ (z : Carrier). RoomHas z space (bits q) from vs beyond) e
    (subst (λ (z : ℕ). RoomHas c z (bits q) from vs beyond) f
    (subst (λ (z : List ℕ). RoomHas c room (bits z) from vs beyond) g
    (subst (λ (z : ℕ). RoomHas c room (bits p) z vs beyond) h has)))

-- what is written of an item that there is
pub sure_ok : {E A P : Type 0} (r : Result Bool E) → IfOk r (λ b. b ≡ true) → IfOk r (λ b. IsTrue b → A) → (A → P) → IfOk r (λ b. P)
sure_ok (Ok b) sure h f = f (h sure)
sure_ok (Err e) sure h f = tt

-- what is written of a message that is kept, if it has as many bits
pub kept_ok : {T E A B P : Type 0} (r : Result T E) → (A → B → P) → OnOk r A → OnOk r (B → P)
kept_ok (Ok x) f h = f h
kept_ok (Err e) f h = tt

-- ---- Texts that begin with others.

pub begins_long : (old new : List ℕ) → Begins old new → length old ≤ length new
begins_long old new h = omega (arith, ap length h, length-take (length old) new)

pub begins_same : (old new : List ℕ) → new ≡ old → Begins old new
begins_same old new e = ap (take (length old)) e ∙ take_all (length old) old (omega arith)

pub begins_added : (old more new : List ℕ) → new ≡ old ++ more → Begins old new
begins_added old more new e = ap (take (length old)) e ∙ take_at old more (length old) refl

pub begins_on : (old mid new : List ℕ) → Begins old mid → Begins mid new → Begins old new
begins_on old mid new f g = sym (take-take (length old) (length mid) new (begins_long old mid f)) ∙ ap (take (length old)) g ∙ f

pub begins_past : (old mid more new : List ℕ) → Begins old mid → new ≡ mid ++ more → Begins old new
begins_past old mid more new f e = begins_on old mid new f (begins_added mid more new e)

pub begins_kept : (old mid new : List ℕ) → Begins old mid → new ≡ mid → Begins old new
begins_kept old mid new f e = begins_on old mid new f (begins_same mid new e)

pub six_begin : (old one two three four five six a b c d e f : List ℕ) → one ≡ old ++ a → two ≡ one ++ b → three ≡ two ++ c → four ≡ three ++ d → five ≡ four ++ e → six ≡ five ++ f → Begins old six
six_begin old one two three four five six a b c d e f g h i j k l =
    begins_past old five f six (begins_past old four e five (begins_past old three d four (begins_past old two c three (begins_past old one b two (begins_added old a one g) h) i) j) k) l

-- ---- What messages stand for.

module _ {H B P : Type 0} (way : Way) (k : HeadOf H) (o : OwnOf B) (form : P → Form) where
  pub typed_value : (m : Content H B P) (head : H) (body : B) → head_of m ≡ Some head → body_of m ≡ Some body → typed_message (o.nid body) (k.reading head) (o.reading body) (values_of form (packets_of m)) (num (padding_bits_of way o form m) (padding_of m)) ≡ message_value way k o form m
  typed_value (Typed head body ps padding) h b e g =
      let same_head : h ≡ head = cc in
      let same_body : b ≡ body = cc in
      λ i. typed_message (o.nid (same_body i)) (k.reading (same_head i)) (o.reading (same_body i)) (values_of form ps) (num (padding_room (all_bits way o form body ps)) padding)
  typed_value (Kept nid bits) h b e g = absurd cc

  pub kept_value : (m : Content H B P) (b : List Bool) → kept_of m ≡ Some b → kept_message (nid_of_message o m) b ≡ message_value way k o form m
  kept_value (Typed head body ps padding) b e = absurd cc
  kept_value (Kept nid bits) b e = let same : b ≡ bits = cc in ap (kept_message nid) same
