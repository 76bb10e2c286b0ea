-- Messages by their spellings.
use Rattle.std.proofs.Common.{◌≡◌, ℕ, ◌+◌, ◌-◌, ◌*◌, ◌^◌, ◌<◌, Bool, true, false, List, [], ◌∷◌, ◌++◌, length, Some, None, refl, sym, ap, subst, ◌∙◌, arith}
use Rattle.std.proofs.lemmas.List.{append-nil}
use Rattle.etcs_bits.specs.Bits.{num}
use Rattle.etcs_bits.proofs.Numbers.{num_same}
use Rattle.etcs_vars.specs.declared.var.Var.TheVariants.{NID_MESSAGE, L_MESSAGE, PADDING, OTHER_DATA}
use Rattle.etcs_vars.specs.Reading.{Sent, Reading, spelled, kept, IsAdmitted}
use Rattle.etcs_vars.proofs.Apart.{Agree, AllFit, Agree-append, AllFit-append, Agree-cut, apart}
use Rattle.etcs_vars.proofs.Prefixes.{admits_parts}
use Rattle.etcs_vars.proofs.Walk.{Regular}
use Rattle.etcs_tables.specs.declared.row.Way.{Way}
use Rattle.etcs_rows.specs.declared.frames.Carrier.TheVariants.{Message}
use Rattle.etcs_tables.specs.Layouts.{Layout, Reads}
use Rattle.etcs_tables.specs.Rows.{message_row_to}
use Rattle.etcs_rows.proofs.LengthLemmas.{length-spelled}
use Rattle.etcs_rows.specs.laws.OneReading.{Reads-agree, Reads-fit}
use Rattle.etcs_packets.specs.PacketValues.{PacketValue, Form}
use Rattle.etcs_packets.specs.PacketReadings.{readings_to}
use Rattle.etcs_packets.proofs.OnePacket.{lists_one}
use Rattle.etcs_sequence.specs.Contents.{ReadsPackets}
use Rattle.etcs_sequence.specs.laws.Agreement.{run_regular}
use Rattle.etcs_sequence.proofs.OneSpelling.{packets_same}
use Rattle.etcs_messages.specs.declared.message.Content.{Content}
use Rattle.etcs_messages.specs.declared.message.Content.TheVariants.{Typed, Kept}
use Rattle.etcs_messages.specs.Messages.{MessageValue, typed_message, kept_message, TypedReads, KeptReads, MessageReads, MessageLanguage, head_reading, front_of, all_bits, padding_room, IsMessage, message_value}
use Rattle.etcs_messages.specs.Promises.{OneSpelling}
use Rattle.etcs_messages.specs.Kinds.{HeadOf, OwnOf, HeadLaws, OwnLaws}
use Rattle.etcs_tables.specs.Headers.{head_row}
use Rattle.etcs_messages.proofs.Fields.{head_length}
use Rattle.etcs_messages.proofs.Sizes.{faultless, is_head}
use Rattle.etcs_reader.specs.Fields.{ReadsFields}
use Rattle.etcs_reader.specs.laws.FieldLaws.{fields_regular}
use Rattle.etcs_sequence.specs.laws.BitLaws.{bits_agree, bits_fit}
use Rattle.etcs_sequence.proofs.BitLaws.{bits_known}

-- ---- The header's numbers.

abbrev pub first_number : Reading → ℕ
first_number [] = 0
first_number (p ∷ r) = p.1

abbrev pub rest_of : Reading → Reading
rest_of [] = []
rest_of (p ∷ r) = r

abbrev pub second_number : Reading → ℕ
second_number r = first_number (rest_of r)

pub heads_agree : (way : Way) (nid nid' len len' : ℕ) (h h' : Reading) → ReadsFields (head_row way) h → ReadsFields (head_row way) h' → Agree (head_reading nid len h) (head_reading nid' len' h')
heads_agree way nid nid' len len' h h' x y = (refl, λ _. (refl, λ _. (fields_regular (head_row way)).agree h h' x y))

pub admitted_fit : (r : Reading) → IsAdmitted r → AllFit r
admitted_fit [] h = tt
admitted_fit (p ∷ r) h = ((admits_parts p.0 p.1 h.0).1, admitted_fit r h.1)

-- ---- Two typed messages.

one_row : (way : Way) (nid nid' : ℕ) (row row' : Layout) → nid ≡ nid' → message_row_to way nid ≡ Some row → message_row_to way nid' ≡ Some row' → row' ≡ row
one_row way nid nid' row row' n e e' = let found : Some row ≡ Some row' = sym e ∙ ap (message_row_to way) n ∙ e' in cc

pub not_both : (way : Way) (nid nid' : ℕ) (row : Layout) → nid ≡ nid' → message_row_to way nid ≡ Some row → message_row_to way nid' ≡ None → ⊥
not_both way nid nid' row n e e' = let found : Some row ≡ None = sym e ∙ ap (message_row_to way) n ∙ e' in absurd cc

-- how many bits come before PADDING
front_length : (way : Way) (nid len : ℕ) (h : Reading) (body packets : Reading) → ReadsFields (head_row way) h → length (spelled ((head_reading nid len h ++ body) ++ packets)) ≡ front_of way body + length (spelled packets)
front_length way nid len h body packets reads =
    let l1 = length-spelled (head_reading nid len h ++ body) packets in
    let l2 = length-spelled (head_reading nid len h) body in
    omega (arith, l1, l2, head_length way nid len h reads)

module _ (way : Way) (nid nid' : ℕ) (h h' : Reading) (body body' : Reading) (vs vs' : List PacketValue) (padding padding' : List Bool) (r r' : Reading) (x : TypedReads way nid h body vs padding r) (y : TypedReads way nid' h' body' vs' padding' r') where
  abbrev head : Reading
  head = head_reading nid x.len h

  abbrev head' : Reading
  head' = head_reading nid' y.len h'

  abbrev sent : Reading
  sent = readings_to way vs

  abbrev sent' : Reading
  sent' = readings_to way vs'

  bodies_agree : head ≡ head' → Agree body body'
  bodies_agree e =
      let same = one_row way nid nid' x.row y.row (ap first_number e) x.typed_number y.typed_number in
      Reads-agree x.row [] body body' x.body_reads (subst (λ (l : Layout). Reads l [] body') same y.body_reads)

  fronts_agree : Agree (head ++ body) (head' ++ body')
  fronts_agree = Agree-append head head' body body' (heads_agree way nid nid' x.len y.len h h' x.head_reads y.head_reads) bodies_agree

  rooms_same : head ++ body ≡ head' ++ body' → 8 * x.len - front_of way body ≡ 8 * y.len - front_of way body'
  rooms_same e =
      let parts = Agree-cut head head' body body' (heads_agree way nid nid' x.len y.len h h' x.head_reads y.head_reads) e in
      omega (arith, ap second_number parts.0, ap (λ (q : Reading). length (spelled q)) parts.1)

  run_same : head ++ body ≡ head' ++ body' → ReadsPackets (Message way) (8 * x.len - front_of way body) vs' sent'
  run_same e = subst (λ (k : ℕ). ReadsPackets (Message way) k vs' sent') (sym (rooms_same e)) y.run

  runs_agree : head ++ body ≡ head' ++ body' → Agree sent sent'
  runs_agree e = let runs = run_regular (Message way) (8 * x.len - front_of way body) in runs.agree sent sent' (vs, x.run) (vs', run_same e)

  packed_agree : Agree ((head ++ body) ++ sent) ((head' ++ body') ++ sent')
  packed_agree = Agree-append (head ++ body) (head' ++ body') sent sent' fronts_agree runs_agree

  paddings : (head ++ body) ++ sent ≡ (head' ++ body') ++ sent' → length padding ≡ length padding'
  paddings e =
      let len : x.len ≡ y.len = ap second_number e in
      omega (arith, len, ap (λ (q : Reading). length (spelled q)) e, front_length way nid x.len h body sent x.head_reads, front_length way nid' y.len h' body' sent' y.head_reads, x.bytes, y.bytes)

  pub typed_agree : Agree r r'
  typed_agree =
      rw (x.reading_is, y.reading_is)
      (Agree-append ((head ++ body) ++ sent) ((head' ++ body') ++ sent') (kept PADDING padding) (kept PADDING padding') packed_agree (λ e. bits_agree PADDING padding padding' (paddings e)))

  pub typed_same : r ≡ r' → typed_message nid h body vs padding ≡ typed_message nid' h' body' vs' padding'
  typed_same e =
      let whole = sym x.reading_is ∙ e ∙ y.reading_is in
      let packed = Agree-cut ((head ++ body) ++ sent) ((head' ++ body') ++ sent') (kept PADDING padding) (kept PADDING padding') packed_agree whole in
      let fronts = Agree-cut (head ++ body) (head' ++ body') sent sent' fronts_agree packed.0 in
      let heads = Agree-cut head head' body body' (heads_agree way nid nid' x.len y.len h h' x.head_reads y.head_reads) fronts.0 in
      let number : nid ≡ nid' = ap first_number heads.0 in
      let one : h ≡ h' = ap (λ (q : Reading). rest_of (rest_of q)) heads.0 in
      let packets : vs ≡ vs' = packets_same (Message way) (8 * x.len - front_of way body) vs vs' sent sent' x.run (run_same fronts.0) fronts.1 in
      let pad : padding ≡ padding' = bits_known PADDING padding padding' packed.1 in
      let own : body ≡ body' = heads.1 in
      rw (number, one, own, packets, pad) refl

-- ---- A typed and a kept one, and two kept.

mixed_agree : (way : Way) (nid nid' : ℕ) (h : Reading) (body : Reading) (vs : List PacketValue) (padding b : List Bool) (r r' : Reading) → TypedReads way nid h body vs padding r → KeptReads way nid' b r' → Agree r r' × Agree r' r
mixed_agree way nid nid' h body vs padding b r r' x y =
    rw (x.reading_is, y.reading_is) (
      (refl, λ (e : ◌≡◌ {A = Sent} (NID_MESSAGE, nid) (NID_MESSAGE, nid')). absurd (not_both way nid nid' x.row (ap (λ (p : Sent). p.1) e) x.typed_number y.untyped)),
      (refl, λ (e : ◌≡◌ {A = Sent} (NID_MESSAGE, nid') (NID_MESSAGE, nid)). absurd (not_both way nid nid' x.row (sym (ap (λ (p : Sent). p.1) e)) x.typed_number y.untyped)),
    )

kept_both : (way : Way) (nid nid' : ℕ) (b b' : List Bool) (r r' : Reading) → KeptReads way nid b r → KeptReads way nid' b' r' → Agree r r'
kept_both way nid nid' b b' r r' x y =
    rw (x.reading_is, y.reading_is)
    (refl, λ _. (refl, λ (e : ◌≡◌ {A = Sent} (L_MESSAGE, x.len) (L_MESSAGE, y.len)). bits_agree OTHER_DATA b b' (let l : x.len ≡ y.len = ap (λ (p : Sent). p.1) e in omega (arith, l, x.bytes, y.bytes))))

kept_one : (way : Way) (nid nid' : ℕ) (b b' : List Bool) (r : Reading) → KeptReads way nid b r → KeptReads way nid' b' r → kept_message nid b ≡ kept_message nid' b'
kept_one way nid nid' b b' r x y =
    let whole = sym x.reading_is ∙ y.reading_is in
    let number : nid ≡ nid' = ap first_number whole in
    let held : b ≡ b' = bits_known OTHER_DATA b b' (ap (λ (q : Reading). rest_of (rest_of q)) whole) in
    rw (number, held) refl

-- ---- All messages.

agree : (way : Way) (v w : MessageValue) (a b : Reading) → MessageReads way v a → MessageReads way w b → Agree a b
agree way (typed_message nid h body vs padding) (typed_message nid' h' body' vs' padding') a b x y = typed_agree way nid nid' h h' body body' vs vs' padding padding' a b x y
agree way (typed_message nid h body vs padding) (kept_message nid' k) a b x y = (mixed_agree way nid nid' h body vs padding k a b x y).0
agree way (kept_message nid k) (typed_message nid' h body vs padding) a b x y = (mixed_agree way nid' nid h body vs padding k b a y x).1
agree way (kept_message nid k) (kept_message nid' k') a b x y = kept_both way nid nid' k k' a b x y

fit : (way : Way) (v : MessageValue) (a : Reading) → MessageReads way v a → AllFit a
fit way (typed_message nid h body vs padding) a x =
    let head = head_reading nid x.len h in
    let sent = readings_to way vs in
    let runs = run_regular (Message way) (8 * x.len - front_of way body) in
    rw x.reading_is
    (AllFit-append ((head ++ body) ++ sent) (kept PADDING padding)
    (AllFit-append (head ++ body) sent (AllFit-append head body (admitted_fit head x.head_admitted) (Reads-fit x.row [] body x.body_reads)) (runs.fit sent (vs, x.run)))
    (bits_fit PADDING padding refl))
fit way (kept_message nid k) a x = rw x.reading_is (x.small, (x.most, bits_fit OTHER_DATA k refl))

-- readings of messages agree, and their numbers fit
pub regular : (way : Way) → Regular (MessageLanguage way)
regular way = record { agree = λ a b (v, x) (w, y). agree way v w a b x y; fit = λ a (v, x). fit way v a x }

-- a reading is one message's
pub one_value : (way : Way) (v w : MessageValue) (r : Reading) → MessageReads way v r → MessageReads way w r → v ≡ w
one_value way (typed_message nid h body vs padding) (typed_message nid' h' body' vs' padding') r x y = typed_same way nid nid' h h' body body' vs vs' padding padding' r r x y refl
one_value way (typed_message nid h body vs padding) (kept_message nid' k) r x y = absurd (not_both way nid nid' x.row (ap first_number (sym x.reading_is ∙ y.reading_is)) x.typed_number y.untyped)
one_value way (kept_message nid k) (typed_message nid' h body vs padding) r x y = absurd (not_both way nid' nid y.row (ap first_number (sym y.reading_is ∙ x.reading_is)) y.typed_number x.untyped)
one_value way (kept_message nid k) (kept_message nid' k') r x y = kept_one way nid nid' k k' r x y

-- ---- A value is one message's.

-- the parts of a value
abbrev value_nid : MessageValue → ℕ
value_nid (typed_message nid h body vs padding) = nid
value_nid (kept_message nid k) = nid

abbrev value_head : MessageValue → Reading
value_head (typed_message nid h body vs padding) = h
value_head (kept_message nid k) = []

abbrev value_body : MessageValue → Reading
value_body (typed_message nid h body vs padding) = body
value_body (kept_message nid k) = []

abbrev value_packets : MessageValue → List PacketValue
value_packets (typed_message nid h body vs padding) = vs
value_packets (kept_message nid k) = []

abbrev value_bits : MessageValue → List Bool
value_bits (typed_message nid h body vs padding) = padding
value_bits (kept_message nid k) = k

abbrev is_typed : MessageValue → Bool
is_typed (typed_message nid h body vs padding) = true
is_typed (kept_message nid k) = false

-- no two packets stand for one value
abbrev pub OnePacket : {P : Type 0} → (P → Form) → Type 0
OnePacket {P} form = (p q : P) → (form p).made → (form q).made → (form p).value ≡ (form q).value → p ≡ q

pub one_content : {H B P : Type 0} (way : Way) (hd : HeadOf H) (bd : OwnOf B) (form : P → Form) {sent_head : H → Reading} {sent_own : B → Reading} (hl : HeadLaws way H sent_head hd) (ol : OwnLaws way B sent_own bd) (one : OnePacket form) (m n : Content H B P) → IsMessage way hd bd form m → IsMessage way hd bd form n → message_value way hd bd form m ≡ message_value way hd bd form n → m ≡ n
one_content way hd bd form hl ol one (Typed head body ps padding) (Typed head' body' ps' padding') hm hn e =
    let heads : head ≡ head' = hl.one head head' (is_head way hd bd form head body ps padding hm) (is_head way hd bd form head' body' ps' padding' hn) (ap value_head e) in
    let bodies : body ≡ body' = ol.one body body' hm.own hn.own (ap value_nid e) (ap value_body e) in
    let packets : ps ≡ ps' = lists_one form one ps ps' hm.made hn.made (ap value_packets e) in
    let f = faultless way hd bd form head body ps padding hm.no_fault in
    let f' = faultless way hd bd form head' body' ps' padding' hn.no_fault in
    let room = padding_room (all_bits way bd form body ps) in
    let rooms : padding_room (all_bits way bd form body' ps') ≡ room = rw (bodies, packets) refl in
    let bits : num room padding ≡ num room padding' = ap value_bits e ∙ ap (λ (k : ℕ). num k padding') rooms in
    let number : padding ≡ padding' = num_same room padding padding' f.small (subst (λ (k : ℕ). padding' < 2 ^ k) rooms f'.small) bits in
    rw (heads, bodies, packets, number) refl
one_content way hd bd form hl ol one (Typed head body ps padding) (Kept nid k) hm hn e = absurd (let t : true ≡ false = ap is_typed e in cc)
one_content way hd bd form hl ol one (Kept nid k) (Typed head body ps padding) hm hn e = absurd (let t : false ≡ true = ap is_typed e in cc)
one_content way hd bd form hl ol one (Kept nid k) (Kept nid' k') hm hn e =
    let number : nid ≡ nid' = ap value_nid e in
    let held : k ≡ k' = ap value_bits e in
    rw (number, held) refl

pub one_spelled : {H B P : Type 0} (way : Way) (hd : HeadOf H) (bd : OwnOf B) (form : P → Form) {sent_head : H → Reading} {sent_own : B → Reading} (hl : HeadLaws way H sent_head hd) (ol : OwnLaws way B sent_own bd) (one : OnePacket form) → OneSpelling way hd bd form
one_spelled way hd bd form hl ol one m n a b beyond hm hn x y e =
    let r = regular way in
    let both = apart b a [] beyond (r.agree b a (message_value way hd bd form n, y) (message_value way hd bd form m, x)) (r.fit b (message_value way hd bd form n, y)) (r.fit a (message_value way hd bd form m, x)) (append-nil (spelled b) ∙ e) in
    let y' : MessageReads way (message_value way hd bd form n) a = rw both.0 at y in
    (one_content way hd bd form hl ol one m n hm hn (one_value way (message_value way hd bd form m) (message_value way hd bd form n) a x y'), sym both.1)
