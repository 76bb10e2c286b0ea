-- A header, its row and packets begin a message exactly if they leave padding or the frame of a packet.
use Rattle.std.proofs.Common.{◌≡◌, ℕ, ◌+◌, ◌-◌, ◌*◌, ◌≤◌, Bool, false, List, [], ◌∷◌, ◌++◌, length, Some, refl, sym, ap, subst, ◌∙◌, arith, inl, inr, append_assoc}
use Rattle.std.specs.Prelude.{All, IsTrue, ◌⊎◌, replicate, nat_le}
use Rattle.std.proofs.lemmas.Bool.{or_left, or_right, le-leb}
use Rattle.std.proofs.lemmas.Grind.{flat_map-append}
use Rattle.std.proofs.lemmas.List.{append-nil, length-append, length-replicate}
use Rattle.std.proofs.lemmas.List.Elements.{All-head, All-tail, All-append}
use Rattle.etcs_vars.specs.declared.var.Var.TheVariants.{NID_MESSAGE, L_MESSAGE, PADDING, OTHER_DATA}
use Rattle.etcs_vars.specs.Reading.{Reading, spelled, kept, Viable, IsAdmitted}
use Rattle.etcs_vars.proofs.Apart.{apart}
use Rattle.etcs_vars.specs.laws.Spellings.{spelled-append}
use Rattle.etcs_tables.specs.declared.row.Way.{Way}
use Rattle.etcs_tables.specs.declared.row.Way.TheVariants.{ToTrain, ToTrack}
use Rattle.etcs_tables.specs.Frames.{frame_bits}
use Rattle.etcs_tables.specs.MessageRows.{header_bits}
use Rattle.etcs_rows.specs.declared.frames.Carrier.TheVariants.{Message}
use Rattle.etcs_rows.specs.Frames.{may_be_left}
use Rattle.etcs_tables.specs.Layouts.{Layout, Reads}
use Rattle.etcs_tables.specs.Rows.{message_row_to}
use Rattle.etcs_rows.proofs.LengthLemmas.{length-spelled}
use Rattle.etcs_rows.specs.laws.OneReading.{Reads-apart}
use Rattle.etcs_packets.specs.PacketValues as packets
use Rattle.etcs_packets.specs.PacketValues.{PacketValue}
use Rattle.etcs_packets.specs.PacketReadings.{reading_to, readings_to}
use Rattle.etcs_packets.specs.laws.PacketReadings.{bits_are}
use Rattle.etcs_reader.specs.Fields.{ReadsFields}
use Rattle.etcs_sequence.specs.Contents.{Carries, ReadsPackets}
use Rattle.etcs_sequence.specs.laws.Agreement.{packet_agree, packet_fit}
use Rattle.etcs_sequence.proofs.Fits.{run_some}
use Rattle.etcs_messages.specs.Messages.{typed_message, kept_message, TypedReads, KeptReads, MessageLanguage, head_reading}
use Rattle.etcs_messages.specs.Promises.{begun, RoomRule}
use Rattle.etcs_tables.specs.Headers.{head_row}
use Rattle.etcs_messages.proofs.Ways.{frame_some}
use Rattle.etcs_messages.proofs.Fields.{head_length}
use Rattle.etcs_sequence.proofs.BitLaws.{bits_length}
use Rattle.etcs_messages.proofs.Spelling.{first_number, rest_of, second_number, heads_agree, admitted_fit, not_both}

both_spelled : (a b : Reading) (c : List Bool) → spelled (a ++ b) ++ c ≡ spelled a ++ (spelled b ++ c)
both_spelled a b c = ap (λ (s : List Bool). s ++ c) (spelled-append a b) ∙ append_assoc (spelled a) (spelled b) c

framed : (way : Way) (v : PacketValue) → Carries (Message way) v → frame_bits way ≤ length (spelled (reading_to way v))
framed ToTrain (packets.marker n) h = absurd (omega (arith, h.1))
framed ToTrack (packets.marker n) h = absurd (let none = h.0 in cc)
framed way (packets.typed nid dir r) h = omega (arith, bits_are way (packets.typed nid dir r))
framed way (packets.kept nid dir b) h = omega (arith, bits_are way (packets.kept nid dir b))

-- n of m bits leave padding or a frame
abbrev Leaves : (way : Way) → ℕ → ℕ → Type 0
Leaves way all some = (some ≤ all) × ((all - some ≤ 7) ⊎ (frame_bits way ≤ all - some))

more_leaves : (way : Way) (n all some : ℕ) → Leaves way all some → Leaves way (n + all) (n + some)
more_leaves way n all some (le, inl few) = (omega (arith, le), inl (omega (arith, few)))
more_leaves way n all some (le, inr many) = (omega (arith, le), inr (omega (arith, many)))

-- packets that begin the bits of others and padding
packets_leave : (way : Way) (vs us : List PacketValue) (c d : List Bool) → All (Carries (Message way)) vs → All (Carries (Message way)) us → length d ≤ 7 → spelled (readings_to way vs) ++ c ≡ spelled (readings_to way us) ++ d → Leaves way (length (spelled (readings_to way us)) + length d) (length (spelled (readings_to way vs)))
packets_leave way [] [] c d hv hu short e = (omega arith, inl (omega (arith, short)))
packets_leave way [] (u ∷ us) c d hv hu short e =
    let l = length-spelled (reading_to way u) (readings_to way us) in
    (omega arith, inr (omega (arith, l, framed way u (All-head (Carries (Message way)) u us hu))))
packets_leave way (v ∷ vs) [] c d hv hu short e =
    let l = length-spelled (reading_to way v) (readings_to way vs) in
    let whole = sym (length-append (spelled (readings_to way (v ∷ vs))) c) ∙ ap length e in
    absurd (let some = frame_some way in omega (arith, l, whole, short, some, framed way v (All-head (Carries (Message way)) v vs hv)))
packets_leave way (v ∷ vs) (u ∷ us) c d hv hu short e =
    let iv = (All-head (Carries (Message way)) v vs hv).0 in
    let iu = (All-head (Carries (Message way)) u us hu).0 in
    let e' : spelled (reading_to way v) ++ (spelled (readings_to way vs) ++ c) ≡ spelled (reading_to way u) ++ (spelled (readings_to way us) ++ d) =
    sym (both_spelled (reading_to way v) (readings_to way vs) c) ∙ e ∙ both_spelled (reading_to way u) (readings_to way us) d in
    let parts = apart (reading_to way v) (reading_to way u) (spelled (readings_to way vs) ++ c) (spelled (readings_to way us) ++ d) (packet_agree way v u iv iu) (packet_fit way v iv) (packet_fit way u iu) e' in
    let rest = packets_leave way vs us c d (All-tail (Carries (Message way)) v vs hv) (All-tail (Carries (Message way)) u us hu) short parts.1 in
    let first : length (spelled (reading_to way v)) ≡ length (spelled (reading_to way u)) = ap (λ (r : Reading). length (spelled r)) parts.0 in
    let l1 = length-spelled (reading_to way v) (readings_to way vs) in
    let l2 = length-spelled (reading_to way u) (readings_to way us) in
    let n = length (spelled (reading_to way u)) in
    let more = more_leaves way n (length (spelled (readings_to way us)) + length d) (length (spelled (readings_to way vs))) rest in
    let all : n + (length (spelled (readings_to way us)) + length d) ≡ length (spelled (readings_to way (u ∷ us))) + length d = omega (arith, l2) in
    let some : n + length (spelled (readings_to way vs)) ≡ length (spelled (readings_to way (v ∷ vs))) = omega (arith, l1, first) in
    subst (Leaves way (length (spelled (readings_to way (u ∷ us))) + length d)) some (subst (λ (k : ℕ). Leaves way k (n + length (spelled (readings_to way vs)))) all more)

module _ (way : Way) (nid len : ℕ) (h : Reading) (row : Layout) (body : Reading) (vs : List PacketValue) (found : message_row_to way nid ≡ Some row) (variables : ReadsFields (head_row way) h) (admitted : IsAdmitted (head_reading nid len h)) (reads : Reads row [] body) (carried : All (Carries (Message way)) vs) where
  abbrev head : Reading
  head = head_reading nid len h

  abbrev sent : Reading
  sent = readings_to way vs

  abbrev bits : ℕ
  bits = length (spelled (begun way nid len h body vs))

  begun_length : bits ≡ header_bits way + length (spelled body) + length (spelled sent)
  begun_length =
      let l1 = length-spelled (head ++ body) sent in
      let l2 = length-spelled head body in
      omega (arith, l1, l2, head_length way nid len h variables)

  begun_spelled : (c : List Bool) → spelled (begun way nid len h body vs) ++ c ≡ spelled head ++ (spelled body ++ (spelled sent ++ c))
  begun_spelled c = both_spelled (head ++ body) sent c ∙ both_spelled head body (spelled sent ++ c)

  -- ---- What begins a message leaves it.

  needed_typed : (nid' : ℕ) (h' : Reading) (body' : Reading) (us : List PacketValue) (padding c : List Bool) (r : Reading) → TypedReads way nid' h' body' us padding r → spelled r ≡ spelled (begun way nid len h body vs) ++ c → Leaves way (8 * len) bits
  needed_typed nid' h' body' us padding c r x e =
      let head' = head_reading nid' x.len h' in
      let sent' = readings_to way us in
      let pad = spelled (kept PADDING padding) in
      let cut : spelled r ≡ spelled head' ++ (spelled body' ++ (spelled sent' ++ pad)) =
      ap spelled x.reading_is ∙ spelled-append ((head' ++ body') ++ sent') (kept PADDING padding) ∙ both_spelled (head' ++ body') sent' pad ∙ both_spelled head' body' (spelled sent' ++ pad) in
      let whole : spelled head ++ (spelled body ++ (spelled sent ++ c)) ≡ spelled head' ++ (spelled body' ++ (spelled sent' ++ pad)) = sym (begun_spelled c) ∙ sym e ∙ cut in
      let heads = apart head head' (spelled body ++ (spelled sent ++ c)) (spelled body' ++ (spelled sent' ++ pad)) (heads_agree way nid nid' len x.len h h' variables x.head_reads) (admitted_fit head admitted) (admitted_fit head' x.head_admitted) whole in
      let number : nid ≡ nid' = ap first_number heads.0 in
      let lens : len ≡ x.len = ap second_number heads.0 in
      let both : Some row ≡ Some x.row = sym found ∙ ap (message_row_to way) number ∙ x.typed_number in
      let same : x.row ≡ row = cc in
      let bodies = Reads-apart row [] body body' (spelled sent ++ c) (spelled sent' ++ pad) reads (subst (λ (l : Layout). Reads l [] body') same x.body_reads) heads.1 in
      let own : length (spelled body) ≡ length (spelled body') = ap (λ (q : Reading). length (spelled q)) bodies.0 in
      let lp = bits_length PADDING padding refl in
      let short : length pad ≤ 7 = omega (arith, lp, x.bytes, x.run.fills.1) in
      let rest = packets_leave way vs us c pad carried x.run.carried short bodies.1 in
      let more = more_leaves way (header_bits way + length (spelled body)) (length (spelled sent') + length pad) (length (spelled sent)) rest in
      let all : header_bits way + length (spelled body) + (length (spelled sent') + length pad) ≡ 8 * len = omega (arith, own, lp, lens, x.bytes) in
      let some : header_bits way + length (spelled body) + length (spelled sent) ≡ bits = sym begun_length in
      subst (Leaves way (8 * len)) some (subst (λ (k : ℕ). Leaves way k (header_bits way + length (spelled body) + length (spelled sent))) all more)

  needed_kept : (nid' : ℕ) (k c : List Bool) (r : Reading) → KeptReads way nid' k r → spelled r ≡ spelled (begun way nid len h body vs) ++ c → ⊥
  needed_kept nid' k c r x e =
      let first : Reading = (NID_MESSAGE, nid) ∷ [] in
      let first' : Reading = (NID_MESSAGE, nid') ∷ [] in
      let tail : Reading = rest_of (begun way nid len h body vs) in
      let tail' : Reading = (L_MESSAGE, x.len) ∷ kept OTHER_DATA k in
      let whole : spelled first ++ (spelled tail ++ c) ≡ spelled first' ++ (spelled tail' ++ []) =
      sym (both_spelled first tail c) ∙ sym e ∙ ap spelled x.reading_is ∙ sym (append-nil (spelled (first' ++ tail'))) ∙ both_spelled first' tail' [] in
      let parts = apart first first' (spelled tail ++ c) (spelled tail' ++ []) (refl, λ _. tt) ((admitted_fit head admitted).0, tt) (x.small, tt) whole in
      not_both way nid nid' row (ap first_number parts.0) found x.untyped

  needed : Viable (MessageLanguage way) (spelled (begun way nid len h body vs)) → Leaves way (8 * len) bits
  needed (r, c, (typed_message nid' h' body' us padding, x), e) = needed_typed nid' h' body' us padding c r x e
  needed (r, c, (kept_message nid' k, x), e) = absurd (needed_kept nid' k c r x e)

  -- ---- And what leaves it begins one.

  left_flag : (left : ℕ) → (left ≤ 7) ⊎ (frame_bits way ≤ left) → IsTrue (may_be_left (Message way) left)
  left_flag left (inl few) = or_left (nat_le left 7) (nat_le (frame_bits way) left) (le-leb left 7 few)
  left_flag left (inr many) = or_right (nat_le left 7) (nat_le (frame_bits way) left) (le-leb (frame_bits way) left many)

  filled : bits ≤ 8 * len → 8 * len ≤ 8184 → (us : List PacketValue) (q : Reading) → ReadsPackets (Message way) (8 * len - bits) us q → Viable (MessageLanguage way) (spelled (begun way nid len h body vs))
  filled room most us q run =
      let more = readings_to way us in
      let count : length (spelled q) ≡ length (spelled more) = ap (λ (t : Reading). length (spelled t)) (run.reading_is ∙ append-nil more) in
      let padding = replicate (8 * len - bits - length (spelled more)) false in
      let pads : length padding ≡ 8 * len - bits - length (spelled more) = length-replicate (8 * len - bits - length (spelled more)) false in
      let both : readings_to way (vs ++ us) ≡ sent ++ more = flat_map-append (reading_to way) vs us in
      let sizes : length (spelled (readings_to way (vs ++ us))) ≡ length (spelled sent) + length (spelled more) = ap (λ (t : Reading). length (spelled t)) both ∙ length-spelled sent more in
      let r : Reading = ((head ++ body) ++ readings_to way (vs ++ us)) ++ kept PADDING padding in
      let x : TypedReads way nid h body (vs ++ us) padding r = record {
        len = len;
        row = row;
        typed_number = found;
        body_reads = reads;
        head_reads = variables;
        head_admitted = admitted;
        run = record {
          carried = All-append (Carries (Message way)) vs us carried run.carried;
          reading_is = sym (append-nil (readings_to way (vs ++ us)));
          fills = (omega (arith, sizes, count, begun_length, room, run.fills.0), omega (arith, sizes, count, begun_length, room, run.fills.1));
        };
        bytes = omega (arith, pads, sizes, count, begun_length, room, run.fills.0);
        reading_is = refl;
      } in
      let beyond = spelled more ++ spelled (kept PADDING padding) in
      let cut : spelled r ≡ spelled (begun way nid len h body vs) ++ beyond =
      spelled-append ((head ++ body) ++ readings_to way (vs ++ us)) (kept PADDING padding)
      ∙ ap (λ (t : Reading). spelled ((head ++ body) ++ t) ++ spelled (kept PADDING padding)) both
      ∙ ap (λ (t : Reading). spelled t ++ spelled (kept PADDING padding)) (sym (append_assoc (head ++ body) sent more))
      ∙ both_spelled (begun way nid len h body vs) more (spelled (kept PADDING padding)) in
      (r, beyond, (typed_message nid h body (vs ++ us) padding, x), cut)

  enough : Leaves way (8 * len) bits → Viable (MessageLanguage way) (spelled (begun way nid len h body vs))
  enough (room, left) =
      let small = (admitted_fit head admitted).1.0 in
      let most : 8 * len ≤ 8184 = omega (arith, small) in
      let some = run_some (Message way) (8 * len - bits) (omega (arith, most)) (left_flag (8 * len - bits) left) in
      filled room most some.1.0 some.0 some.1.1

pub room_rule : (way : Way) → RoomRule way
room_rule way nid len h row body vs found variables admitted reads carried = (needed way nid len h row body vs found variables admitted reads carried, enough way nid len h row body vs found variables admitted reads carried)
