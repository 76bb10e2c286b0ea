-- A message's parts are those of its reading.
use Rattle.std.proofs.Common.{◌≡◌, ℕ, ◌^◌, ◌<◌, ◌≤◌, Bool, true, false, List, [], ◌∷◌, length, refl, sym, arith}
use Rattle.std.specs.Prelude.{IsTrue, All, ◌||◌}
use Rattle.std.specs.List.{list_any}
use Rattle.std.proofs.lemmas.Bool.Decides.{nat_tests}
use Rattle.std.proofs.lemmas.List.{append-nil}
use Rattle.std.proofs.lemmas.List.Elements.{All-nil, All-cons, All-head, All-tail}
use Rattle.etcs_bits.proofs.Numbers.{length-num}
use Rattle.etcs_vars.specs.declared.var.Var.TheVariants.{NID_MESSAGE, L_MESSAGE}
use Rattle.etcs_vars.specs.Reading.{Reading}
use Rattle.etcs_vars.specs.Vars.{admits}
use Rattle.etcs_tables.specs.declared.row.Way.{Way}
use Rattle.etcs_rows.specs.declared.frames.Carrier.TheVariants as carrier
use Rattle.etcs_packets.specs.PacketValues.{Form, IsPacketTo}
use Rattle.etcs_packets.specs.PacketReadings.{readings_to}
use Rattle.etcs_sequence.specs.Contents.{Carries}
use Rattle.etcs_messages.specs.declared.message.Content.{Content}
use Rattle.etcs_messages.specs.declared.message.Content.TheVariants.{Typed, Kept}
use Rattle.etcs_messages.specs.Kinds.{HeadOf, OwnOf, HeadLaws, OwnLaws}
use Rattle.etcs_tables.specs.Headers.{head_row}
use Rattle.etcs_messages.specs.Messages.{values_of, all_bits, padding_room, is_marker, IsTyped, IsMessage, MessageReads, message_value}
use Rattle.etcs_messages.specs.Readings.{bytes_of, message_reading}
use Rattle.etcs_messages.proofs.Ways.{row_small, unmarked_of}
use Rattle.etcs_messages.proofs.Fields.{fields_admitted}
use Rattle.etcs_messages.proofs.Sizes.{faultless, is_head, kept_parts, bytes_small}

number_admitted : (n : ℕ) → n < 2 ^ 8 → IsTrue (admits NID_MESSAGE n)
number_admitted n h = grind (arith, nat_tests)

length_admitted : (n : ℕ) → n ≤ 1023 → IsTrue (admits L_MESSAGE n)
length_admitted n h = grind (arith, nat_tests)

or_false : (a b : Bool) → (a || b) ≡ false → (a ≡ false) × (b ≡ false)
or_false true b h = absurd cc
or_false false b h = (refl, h)

pub carried : {P : Type 0} (way : Way) (form : P → Form) (ps : List P) → list_any (λ p. is_marker way (form p).value) ps ≡ false → All (IsPacketTo way) (values_of form ps) → All (Carries (carrier.Message way)) (values_of form ps)
carried way form [] h all = All-nil (Carries (carrier.Message way))
carried way form (p ∷ ps) h all =
    let both = or_false (is_marker way (form p).value) (list_any (λ q. is_marker way (form q).value) ps) h in
    let v = (form p).value in
    let vs = values_of form ps in
    All-cons (Carries (carrier.Message way)) v vs (All-head (IsPacketTo way) v vs all, unmarked_of way v both.0) (carried way form ps both.1 (All-tail (IsPacketTo way) v vs all))

typed_reads : {H B P : Type 0} (way : Way) (hd : HeadOf H) (bd : OwnOf B) (form : P → Form) {sent_head : H → Reading} {sent_own : B → Reading} (hl : HeadLaws way H sent_head hd) (ol : OwnLaws way B sent_own bd) (head : H) (body : B) (ps : List P) (padding : ℕ) → IsTyped way hd bd form head body ps padding → MessageReads way (message_value way hd bd form (Typed head body ps padding)) (message_reading way hd bd form (Typed head body ps padding))
typed_reads way hd bd form hl ol head body ps padding h =
    let m : Content _ _ _ = Typed head body ps padding in
    let f = faultless way hd bd form head body ps padding h.no_fault in
    let row = ol.reads body h.own in
    let reads = hl.reads head (is_head way hd bd form head body ps padding h) in
    let vs = values_of form ps in
    let len = bytes_of way bd form m in
    let bits = length-num (padding_room (all_bits way bd form body ps)) padding in
    record {
      len = len;
      row = row.0;
      typed_number = row.1;
      body_reads = row.2;
      head_reads = reads;
      head_admitted = (number_admitted (bd.nid body) (row_small way (bd.nid body) row.0 row.1), (length_admitted len (bytes_small way hd bd form m h), fields_admitted (head_row way) (hd.reading head) reads));
      run = record {
        carried = carried way form ps f.unmarked h.packets;
        reading_is = sym (append-nil (readings_to way vs));
        fills = (omega arith, omega arith);
      };
      bytes = omega (arith, bits);
      reading_is = refl;
    }

kept_reads : {H B P : Type 0} (way : Way) (hd : HeadOf H) (bd : OwnOf B) (form : P → Form) (nid : ℕ) (b : List Bool) → IsMessage way hd bd form (Kept nid b) → MessageReads way (message_value way hd bd form (Kept nid b)) (message_reading way hd bd form (Kept nid b))
kept_reads {H} way hd bd form nid b h =
    let k = kept_parts way nid (length b) h.1 in
    record {
      len = bytes_of {H = H} way bd form (Kept nid b);
      untyped = k.untyped;
      small = h.0;
      least = omega (arith, k.least);
      most = omega (arith, k.most);
      bytes = omega (arith, k.bytes);
      reading_is = refl;
    }

pub message_reads : {H B P : Type 0} (way : Way) (hd : HeadOf H) (bd : OwnOf B) (form : P → Form) {sent_head : H → Reading} {sent_own : B → Reading} (hl : HeadLaws way H sent_head hd) (ol : OwnLaws way B sent_own bd) (m : Content H B P) → IsMessage way hd bd form m → MessageReads way (message_value way hd bd form m) (message_reading way hd bd form m)
message_reads way hd bd form hl ol (Typed head body ps padding) h = typed_reads way hd bd form hl ol head body ps padding h
message_reads way hd bd form hl ol (Kept nid b) h = kept_reads way hd bd form nid b h
