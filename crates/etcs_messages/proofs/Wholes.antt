-- What was read of a message that is whole.
use Rattle.std.proofs.Common.{◌≡◌, ℕ, ◌+◌, ◌*◌, ◌^◌, ◌<◌, ◌≤◌, Bool, List, [], ◌∷◌, ◌++◌, length, drop, Some, None, refl, sym, ap, subst, ◌∙◌, arith, append_assoc, append-nil, length-append, inl, inr}
use Rattle.std.specs.Prelude.{Option, option_map, take, All}
use Rattle.std.proofs.lemmas.List.{length-take, length-drop, length-map}
use Rattle.etcs_bits.specs.Bits.{num}
use Rattle.etcs_vars.specs.declared.var.Var.{Var}
use Rattle.etcs_vars.specs.declared.var.Var.TheVariants.{NID_MESSAGE, L_MESSAGE, PADDING, OTHER_DATA}
use Rattle.etcs_vars.specs.Reading.{Sent, Reading, spelled, kept, numbers}
use Rattle.etcs_vars.proofs.Apart.{cut}
use Rattle.etcs_tables.specs.declared.row.Way.{Way}
use Rattle.etcs_rows.specs.declared.frames.Carrier.TheVariants.{Message}
use Rattle.etcs_tables.specs.Layouts.{Layout, Reads}
use Rattle.etcs_tables.specs.Rows.{message_row_to}
use Rattle.etcs_packets.specs.PacketValues.{PacketValue, Form}
use Rattle.etcs_packets.specs.PacketReadings.{readings_to}
use Rattle.etcs_sequence.specs.Contents.{Carries}
use Rattle.etcs_sequence.specs.declared.list.PacketList.{PacketList}
use Rattle.etcs_sequence.specs.Labels.{labelled}
use Rattle.etcs_sequence.proofs.LabelLaws.{numbers_labelled, labelled_count}
use Rattle.etcs_sequence.specs.Held.{list_holds}
use Rattle.etcs_messages.specs.declared.phase.Phase.{Phase}
use Rattle.etcs_messages.specs.declared.phase.Phase.TheVariants.{Whole}
use Rattle.etcs_messages.specs.declared.message.Content.TheVariants as content
use Rattle.etcs_messages.specs.Messages.{values_of, typed_message, kept_message, TypedReads, KeptReads, MessageReads, MessageLanguage, IsMessage, message_value, head_reading, front_of, all_bits, padding_room}
use Rattle.etcs_messages.specs.Lefts.{own_row, front_after, front_row, headed, HoldsBy, PaddingHeld, DataHeld, MessageState, next_var}
use Rattle.etcs_messages.specs.laws.RestLaws.{ended_whole}
use Rattle.etcs_messages.specs.Kinds.{HeadOf, OwnOf, HeadLaws, OwnLaws, IsHead, IsMadeOf, IsHeadNumbers, IsOwnNumbers}
use Rattle.etcs_tables.specs.Headers.{head_row}
use Rattle.etcs_messages.specs.Readings.{content_by}
use Rattle.etcs_messages.specs.Readers.{so_far, message_by, OwnHeld}
use Rattle.etcs_messages.proofs.Listing.{in_list}
use Rattle.etcs_messages.proofs.Fields.{fields_count, labelled_cut}
use Rattle.etcs_messages.proofs.Spelling.{first_number, rest_of}
use Rattle.etcs_messages.proofs.Bytes.{typed_length, reads_length}
use Rattle.etcs_messages.proofs.Faults.{carried_packets, no_typed_fault, no_kept_fault}
use Rattle.etcs_messages.proofs.Fronts.{as_row, row_fields, rows_alike}

-- ---- The front's row.

own_of : (way : Way) (o : Option (List Var)) (vars : List Var) → option_map (front_after way) o ≡ Some vars → (own : List Var) × (o ≡ Some own) × (front_after way own ≡ vars)
own_of way None vars e = absurd cc
own_of way (Some own) vars e = (own, refl, (let same : front_after way own ≡ vars = cc in same))

no_own : (way : Way) (o : Option (List Var)) → option_map (front_after way) o ≡ None → o ≡ None
no_own way None e = refl
no_own way (Some own) e = absurd cc

pub row_none : (way : Way) (nid : ℕ) → front_row way nid ≡ None → message_row_to way nid ≡ None
row_none way nid e = rows_alike way nid ∙ ap (option_map as_row) (no_own way (own_row way nid) e)

-- ---- A typed message.

-- the head and the body of these numbers make a message with this reading
pub record TypedParts {H B P : Type 0} (way : Way) (hd : HeadOf H) (bd : OwnOf B) (form : P → Form) (nid : ℕ) (f g : List ℕ) (ps : List P) (number : ℕ) (q : Reading) : Type 0 where
  pub message : IsMessage way hd bd form (content.Typed (hd.made f) (bd.made nid g) ps number)
  pub reads : MessageReads way (message_value way hd bd form (content.Typed (hd.made f) (bd.made nid g) ps number)) q
  pub head : IsHeadNumbers way f
  pub body : IsOwnNumbers way nid g

-- packets and PADDING that end a message's reading end it as one of their own
with_packets : (way : Way) (nid : ℕ) (h : Reading) (body : Reading) (vs ws : List PacketValue) (padding bits : List Bool) (q : Reading) → TypedReads way nid h body vs padding q → All (Carries (Message way)) ws → length bits ≤ 7 → readings_to way ws ++ kept PADDING bits ≡ readings_to way vs ++ kept PADDING padding → TypedReads way nid h body ws bits q
with_packets way nid h body vs ws padding bits q t carried short same =
    let front = head_reading nid t.len h ++ body in
    let is : q ≡ front ++ readings_to way ws ++ kept PADDING bits =
    t.reading_is ∙ append_assoc front (readings_to way vs) (kept PADDING padding) ∙ ap (λ (r : Reading). front ++ r) (sym same) ∙ sym (append_assoc front (readings_to way ws) (kept PADDING bits)) in
    let l1 = ap (λ (r : Reading). length (spelled r)) t.reading_is ∙ typed_length way nid t.len h body vs padding t.head_reads in
    let l2 = ap (λ (r : Reading). length (spelled r)) is ∙ typed_length way nid t.len h body ws bits t.head_reads in
    let bytes : front_of way body + length (spelled (readings_to way ws)) + length bits ≡ 8 * t.len = omega (arith, l1, l2, t.bytes) in
    record {
      len = t.len;
      row = t.row;
      typed_number = t.typed_number;
      body_reads = t.body_reads;
      head_reads = t.head_reads;
      head_admitted = t.head_admitted;
      run = record { carried = carried; reading_is = sym (append-nil (readings_to way ws)); fills = (omega (arith, bytes), omega (arith, bytes, short)) };
      bytes = bytes;
      reading_is = is;
    }

-- the same reading as one of the head and the body that its numbers make
pub made_reads : {H B : Type 0} (way : Way) (hd : HeadOf H) (bd : OwnOf B) {sent_head : H → Reading} {sent_own : B → Reading} (hl : HeadLaws way H sent_head hd) (ol : OwnLaws way B sent_own bd) (nid : ℕ) (h body : Reading) (f g : List ℕ) (ws : List PacketValue) (bits : List Bool) (q : Reading) → TypedReads way nid h body ws bits q → numbers h ≡ f → numbers body ≡ g → TypedReads way (bd.nid (bd.made nid g)) (hd.reading (hd.made f)) (bd.reading (bd.made nid g)) ws bits q
made_reads {H} {B} way hd bd hl ol nid h body f g ws bits q r firsts nums =
    let b = bd.made nid g in
    let is : IsMadeOf bd nid body b = subst (λ (x : List ℕ). IsMadeOf bd nid body (bd.made nid x)) nums (ol.back nid r.row body r.typed_number r.body_reads) in
    let head : hd.reading (hd.made f) ≡ h = subst (λ (x : List ℕ). hd.reading (hd.made x) ≡ h) firsts (hl.back h r.head_reads).1 in
    let r1 = subst (λ (n : ℕ). TypedReads way n h body ws bits q) (sym is.number) r in
    let r2 = subst (λ (x : Reading). TypedReads way (bd.nid b) x body ws bits q) (sym head) r1 in
    subst (λ (x : Reading). TypedReads way (bd.nid b) (hd.reading (hd.made f)) x ws bits q) (sym is.back) r2

-- by the numbers of its front
typed_of : {H B P : Type 0} (way : Way) (hd : HeadOf H) (bd : OwnOf B) (form : P → Form) {sent_head : H → Reading} {sent_own : B → Reading} (hl : HeadLaws way H sent_head hd) (ol : OwnLaws way B sent_own bd) (nid : ℕ) (h body : Reading) (f g : List ℕ) (ps : List P) (bits : List Bool) (number : ℕ) (q : Reading) → TypedReads way nid h body (values_of form ps) bits q → numbers h ≡ f → numbers body ≡ g → All (λ p. (form p).made) ps → All (Carries (Message way)) (values_of form ps) → length bits ≤ 7 → number < 2 ^ length bits → bits ≡ num (length bits) number → TypedParts way hd bd form nid f g ps number q
typed_of way hd bd form hl ol nid h body f g ps bits number q r firsts nums made carried short small bits_are =
    let own : IsOwnNumbers way nid g = (r.row, body, r.typed_number, r.body_reads, nums) in
    let b = bd.made nid g in
    let is : IsMadeOf bd nid body b = subst (λ (x : List ℕ). IsMadeOf bd nid body (bd.made nid x)) nums (ol.back nid r.row body r.typed_number r.body_reads) in
    let m : IsHead hd (hd.made f) × (hd.reading (hd.made f) ≡ h) = subst (λ (x : List ℕ). IsHead hd (hd.made x) × (hd.reading (hd.made x) ≡ h)) firsts (hl.back h r.head_reads) in
    let long = ap (λ (x : Reading). length (spelled x)) is.back in
    let room : padding_room (all_bits way bd form b ps) ≡ length bits = omega (arith, r.bytes, long, short) in
    let most = reads_length way (typed_message nid h body (values_of form ps) bits) q r in
    let few : all_bits way bd form b ps ≤ 8184 = omega (arith, r.bytes, long, most.1, most.2, ap (λ (x : Reading). length (spelled x)) r.reading_is ∙ typed_length way nid r.len h body (values_of form ps) bits r.head_reads) in
    let pad : bits ≡ num (padding_room (all_bits way bd form b ps)) number = bits_are ∙ ap (λ (n : ℕ). num n number) (sym room) in
    let reads = made_reads way hd bd hl ol nid h body f g (values_of form ps) bits q r firsts nums in
    let padded = subst (λ (x : List Bool). TypedReads way (bd.nid b) (hd.reading (hd.made f)) (bd.reading b) (values_of form ps) x q) pad reads in
    record {
      message = record {
        no_fault = no_typed_fault way hd bd form (hd.made f) b ps number m.0.variables is.own carried few (rw room small);
        head_types = m.0.types;
        own = is.own;
        made = made;
        packets = carried_packets way (values_of form ps) carried;
      };
      reads = padded;
      head = (h, r.head_reads, firsts);
      body = own;
    }

-- the head and the body of a reading of these packets and this PADDING have these numbers
abbrev pub FrontReads : Way → ℕ → List ℕ → List ℕ → List PacketValue → List Bool → Reading → Type 0
FrontReads way nid f g ws bits q = (h : Reading) × (body : Reading) × TypedReads way nid h body ws bits q × (numbers h ≡ f) × (numbers body ≡ g)

-- the front of the message's reading is that of these numbers
front_is : (way : Way) (nid len : ℕ) (own : List Var) (f g : List ℕ) (ws : List PacketValue) (bits : List Bool) (q : Reading) → own_row way nid ≡ Some own → length f ≡ length (head_row way) → length g ≡ length own → All (Carries (Message way)) ws → length bits ≤ 7 → q ≡ headed nid len (labelled (head_row way) f ++ (labelled own g ++ (readings_to way ws ++ kept PADDING bits))) → MessageLanguage way q → FrontReads way nid f g ws bits q
front_is way nid len own f g ws bits q found firsts count carried short e (typed_message nid' h body vs padding, r) =
    let beyond = readings_to way ws ++ kept PADDING bits in
    let rest' = readings_to way vs ++ kept PADDING padding in
    let far : headed nid len (labelled (head_row way) f ++ (labelled own g ++ beyond)) ≡ headed nid' r.len (h ++ (body ++ rest')) =
    sym e ∙ r.reading_is ∙ append_assoc (head_reading nid' r.len h ++ body) (readings_to way vs) (kept PADDING padding) ∙ ap (headed nid' r.len) (append_assoc h body rest') in
    let same : nid ≡ nid' = ap first_number far in
    let front : labelled (head_row way) f ++ (labelled own g ++ beyond) ≡ h ++ (body ++ rest') = ap (λ (x : Reading). rest_of (rest_of x)) far in
    let heads = cut (labelled (head_row way) f) h (labelled own g ++ beyond) (body ++ rest') (labelled_count (head_row way) f firsts ∙ sym (fields_count (head_row way) h r.head_reads)) front in
    let r' = subst (λ (n : ℕ). TypedReads way n h body vs padding q) (sym same) r in
    let row : ◌≡◌ {A = Option Layout} (Some r'.row) (Some (as_row own)) = sym r'.typed_number ∙ rows_alike way nid ∙ ap (option_map as_row) found in
    let row_is : r'.row ≡ as_row own = cc in
    let reads = row_fields own [] body (subst (λ (x : Layout). Reads x [] body) row_is r'.body_reads) in
    let rest = cut (labelled own g) body beyond rest' (labelled_count own g count ∙ sym (fields_count own body reads)) heads.1 in
    let nums : numbers body ≡ g = ap numbers (sym rest.0) ∙ numbers_labelled own g count in
    let head_nums : numbers h ≡ f = ap numbers (sym heads.0) ∙ numbers_labelled (head_row way) f firsts in
    (h, body, with_packets way nid h body vs ws padding bits q r' carried short rest.1, head_nums, nums)
front_is way nid len own f g ws bits q found firsts count carried short e (kept_message nid' b, r) =
    let same : nid ≡ nid' = ap first_number (sym e ∙ r.reading_is) in
    let typed : message_row_to way nid ≡ Some (as_row own) = rows_alike way nid ∙ ap (option_map as_row) found in
    let untyped : message_row_to way nid ≡ None = ap (message_row_to way) same ∙ r.untyped in
    absurd (let both : ◌≡◌ {A = Option Layout} (Some (as_row own)) None = sym typed ∙ untyped in cc)

-- the same of the variables before the packets, all in one list
pub front_reads : (way : Way) (nid len : ℕ) (vars : List Var) (front : List ℕ) (ws : List PacketValue) (bits : List Bool) (q : Reading) → front_row way nid ≡ Some vars → length front ≡ length vars → All (Carries (Message way)) ws → length bits ≤ 7 → q ≡ headed nid len (labelled vars front ++ (readings_to way ws ++ kept PADDING bits)) → MessageLanguage way q → FrontReads way nid (take (length (head_row way)) front) (drop (length (head_row way)) front) ws bits q
front_reads way nid len vars front ws bits q typed long carried short e lang =
    let row = head_row way in
    let n = length row in
    let (own, found, same) = own_of way (own_row way nid) vars typed in
    let count : length front ≡ n + length own = long ∙ ap (λ (v : List Var). length v) (sym same) ∙ length-append row own in
    let firsts : length (take n front) ≡ n = length-take n front ∙ omega (arith, count) in
    let others : length (drop n front) ≡ length own = length-drop n front ∙ omega (arith, count) in
    let tail : Reading = readings_to way ws ++ kept PADDING bits in
    let is : q ≡ headed nid len (labelled row (take n front) ++ (labelled own (drop n front) ++ tail)) =
    e ∙ ap (λ (v : List Var). headed nid len (labelled v front ++ tail)) (sym same) ∙ ap (λ (x : Reading). headed nid len (x ++ tail)) (labelled_cut row own front)
    ∙ ap (headed nid len) (append_assoc (labelled row (take n front)) (labelled own (drop n front)) tail) in
    front_is way nid len own (take n front) (drop n front) ws bits q found firsts others carried short is lang

pub typed_is : {H B P : Type 0} (way : Way) (hd : HeadOf H) (bd : OwnOf B) (form : P → Form) {sent_head : H → Reading} {sent_own : B → Reading} (hl : HeadLaws way H sent_head hd) (ol : OwnLaws way B sent_own bd) (nid : ℕ) (front : List ℕ) (ps : List P) (f : List ℕ) (k : List Bool) (number : ℕ) (q : Reading) → MessageLanguage way q → PaddingHeld way nid front (list_holds form ps f k) number 0 q → TypedParts way hd bd form nid (take (length (head_row way)) front) (drop (length (head_row way)) front) ps number q
typed_is way hd bd form hl ol nid front ps f k number q lang h =
    let n = length (head_row way) in
    let (vs_is, (made, rest)) = h.held in
    let carried = subst (All (Carries (Message way))) vs_is h.carried in
    let short : length h.bits ≤ 7 = omega (arith, h.short) in
    let is = h.reading_is ∙ ap (λ (v : List PacketValue). headed nid h.len (labelled h.vars front ++ (readings_to way v ++ kept PADDING h.bits))) vs_is in
    let (head, body, reads, firsts, others) = front_reads way nid h.len h.vars front (values_of form ps) h.bits q h.typed h.count carried short is lang in
    typed_of way hd bd form hl ol nid head body (take n front) (drop n front) ps h.bits number q reads firsts others made carried short h.small h.padding_is

-- ---- A message that is kept.

kept_whole : {H B P : Type 0} (way : Way) (hd : HeadOf H) (bd : OwnOf B) (form : P → Form) (nid : ℕ) (ps : List P) (f : List ℕ) (k : List Bool) (q : Reading) → MessageLanguage way q → DataHeld way nid (list_holds form ps f k) 0 q → IsMessage way hd bd form (content.Kept nid k) × KeptReads way nid k q
kept_whole way hd bd form nid ps f k q (typed_message nid' h body vs padding, r) d =
    let same : nid ≡ nid' = ap first_number (sym d.reading_is ∙ r.reading_is) in
    let typed : message_row_to way nid ≡ Some r.row = ap (message_row_to way) same ∙ r.typed_number in
    let untyped = row_none way nid d.untyped in
    absurd (let both : ◌≡◌ {A = Option Layout} (Some r.row) None = sym typed ∙ untyped in cc)
kept_whole way hd bd form nid ps f k q (kept_message nid' b, r) d =
    let (vs_is, (made, (m_is, b_is))) = d.held in
    let ns : numbers (headed nid d.len (kept OTHER_DATA d.bits)) ≡ numbers ((NID_MESSAGE, nid') ∷ (L_MESSAGE, r.len) ∷ kept OTHER_DATA b) = ap numbers (sym d.reading_is ∙ r.reading_is) in
    let same : nid ≡ nid' = cc in
    let lens : d.len ≡ r.len = cc in
    let small : nid < 2 ^ 8 = rw same r.small in
    let most : d.len < 2 ^ 10 = rw lens r.most in
    let long = ap length b_is in
    let all : 18 + length k ≡ 8 * d.len = omega (arith, d.room_is, long) in (
      (small, no_kept_fault way nid (length k) d.len (row_none way nid d.untyped) all d.least most),
      record {
        len = d.len;
        untyped = row_none way nid d.untyped;
        small = small;
        least = d.least;
        most = most;
        bytes = all;
        reading_is = d.reading_is ∙ ap (λ (x : List Bool). headed nid d.len (kept OTHER_DATA x)) b_is;
      },
    )

-- ---- If nothing comes next.

at_end : {H B P : Type 0} (way : Way) (hd : HeadOf H) (bd : OwnOf B) (form : P → Form) {sent_head : H → Reading} {sent_own : B → Reading} (hl : HeadLaws way H sent_head hd) (ol : OwnLaws way B sent_own bd) (nid : ℕ) (front : List ℕ) (store : PacketList P) (number : ℕ) (q : Reading) → MessageLanguage way q → PaddingHeld way nid front (list_holds form store.packets.items store.numbers.items store.bits) number 0 q → IsMessage way hd bd form (content_by way hd bd (front_row way nid) nid front store.packets.items store.bits number) × MessageReads way (message_value way hd bd form (content_by way hd bd (front_row way nid) nid front store.packets.items store.bits number)) q
at_end way hd bd form hl ol nid front store number q lang h =
    let t = typed_is way hd bd form hl ol nid front store.packets.items store.numbers.items store.bits number q lang h in
    subst (λ (o : Option (List Var)). IsMessage way hd bd form (content_by way hd bd o nid front store.packets.items store.bits number) × MessageReads way (message_value way hd bd form (content_by way hd bd o nid front store.packets.items store.bits number)) q) (sym h.typed) (t.message, t.reads)

at_kept_end : {H B P : Type 0} (way : Way) (hd : HeadOf H) (bd : OwnOf B) (form : P → Form) (nid : ℕ) (front : List ℕ) (store : PacketList P) (number : ℕ) (q : Reading) → MessageLanguage way q → DataHeld way nid (list_holds form store.packets.items store.numbers.items store.bits) 0 q → IsMessage way hd bd form (content_by way hd bd (front_row way nid) nid front store.packets.items store.bits number) × MessageReads way (message_value way hd bd form (content_by way hd bd (front_row way nid) nid front store.packets.items store.bits number)) q
at_kept_end way hd bd form nid front store number q lang h =
    let t = kept_whole way hd bd form nid store.packets.items store.numbers.items store.bits q lang h in
    subst (λ (o : Option (List Var)). IsMessage way hd bd form (content_by way hd bd o nid front store.packets.items store.bits number) × MessageReads way (message_value way hd bd form (content_by way hd bd o nid front store.packets.items store.bits number)) q) (sym h.untyped) t

-- a front with a head's numbers is as long as the head
head_there : (way : Way) (front : List ℕ) → IsHeadNumbers way (take (length (head_row way)) front) → length (head_row way) ≤ length front
head_there way front (r, reads, nums) =
    let count = fields_count (head_row way) r reads in
    let same = ap (λ (x : List ℕ). length x) nums in
    let all = length-map r (λ (p : Sent). p.1) in
    let front_is = length-take (length (head_row way)) front in
    omega (arith, count, same, all, front_is)

module _ {H B P S : Type 0} (way : Way) (hd : HeadOf H) (bd : OwnOf B) (form : P → Form) (list : S → PacketList P) {sent_head : H → Reading} {sent_own : B → Reading} (hl : HeadLaws way H sent_head hd) (ol : OwnLaws way B sent_own bd) (s : MessageState S) (ends : next_var s ≡ None) (lang : MessageLanguage way (so_far form list s)) (own : OwnHeld (in_list form list) way s (so_far form list s)) where
  -- all of it is held
  abbrev Ended : Type 0
  Ended = HoldsBy way s.nid Whole s.front s.left s.padding (in_list form list s.store) (so_far form list s)

  at_whole : Ended
  at_whole = subst (λ (w : Way). HoldsBy w s.nid Whole s.front s.left s.padding (in_list form list s.store) (so_far form list s)) own.0 (subst (λ (p : Phase). HoldsBy s.way s.nid p s.front s.left s.padding (in_list form list s.store) (so_far form list s)) (ended_whole s ends) own.1)

  -- what was read is a message, and its reading
  abbrev IsRead : Type 0
  IsRead = IsMessage way hd bd form (message_by way hd bd list s) × MessageReads way (message_value way hd bd form (message_by way hd bd list s)) (so_far form list s)

  reads_by : Ended → IsRead
  reads_by (inl h) = at_end way hd bd form hl ol s.nid s.front (list s.store) s.padding (so_far form list s) lang h
  reads_by (inr h) = at_kept_end way hd bd form s.nid s.front (list s.store) s.padding (so_far form list s) lang h

  pub whole_reads : IsMessage way hd bd form (message_by way hd bd list s) × MessageReads way (message_value way hd bd form (message_by way hd bd list s)) (so_far form list s)
  whole_reads = reads_by at_whole

  numbers_by : (vars : List Var) → front_row way s.nid ≡ Some vars → Ended → (length (head_row way) ≤ length s.front) × IsHeadNumbers way (take (length (head_row way)) s.front) × IsOwnNumbers way s.nid (drop (length (head_row way)) s.front)
  numbers_by vars typed (inl p) =
      let k = list s.store in
      let t = typed_is way hd bd form hl ol s.nid s.front k.packets.items k.numbers.items k.bits s.padding (so_far form list s) lang p in
      (head_there way s.front t.head, t.head, t.body)
  numbers_by vars typed (inr d) = let none = d.untyped in absurd cc

  -- the numbers that its front is made of
  pub whole_numbers : (vars : List Var) → front_row way s.nid ≡ Some vars → (length (head_row way) ≤ length s.front) × IsHeadNumbers way (take (length (head_row way)) s.front) × IsOwnNumbers way s.nid (drop (length (head_row way)) s.front)
  whole_numbers vars typed = numbers_by vars typed at_whole
