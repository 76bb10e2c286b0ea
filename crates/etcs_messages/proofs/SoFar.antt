-- The variables so far are those of the fields.
use Rattle.std.proofs.Common.{◌≡◌, ℕ, ◌+◌, ◌-◌, ◌*◌, ◌/◌, ◌≤◌, List, Bool, false, ◌++◌, length, drop, Some, refl, sym, ap, subst, ◌∙◌, arith, append_assoc, inl, inr}
use Rattle.std.specs.Prelude.{IsTrue, Option, not}
use Rattle.std.proofs.lemmas.Bool.{and_parts}
use Rattle.std.proofs.lemmas.List.{length-append}
use Rattle.etcs_bits.specs.Bits.{num}
use Rattle.etcs_vars.specs.declared.var.Var.{Var}
use Rattle.etcs_vars.specs.declared.var.Var.TheVariants.{PADDING, OTHER_DATA}
use Rattle.etcs_vars.specs.Reading.{Reading, spelled, kept}
use Rattle.etcs_vars.specs.laws.Spellings.{spelled-append}
use Rattle.etcs_packets.specs.PacketValues.{PacketValue, Form}
use Rattle.etcs_packets.specs.PacketReadings.{readings_to}
use Rattle.etcs_reader.specs.Rests.{Goes}
use Rattle.etcs_sequence.specs.AtOnce.{Holds}
use Rattle.etcs_sequence.specs.declared.state.PacketsState.{PacketsState}
use Rattle.etcs_sequence.specs.declared.list.PacketList.{PacketList}
use Rattle.etcs_sequence.specs.Labels.{labelled, widths}
use Rattle.etcs_sequence.specs.Lefts.{left_of, ahead, is_closed}
use Rattle.etcs_sequence.specs.Held.{list_holds, packets_so_far}
use Rattle.etcs_sequence.specs.Progress.{asks_memory, asked_from}
use Rattle.etcs_sequence.proofs.Asking.{asked_after, asks_anywhere, packets_ask}
use Rattle.etcs_sequence.proofs.Holding.{packets_far}
use Rattle.etcs_messages.specs.declared.phase.Phase.{Phase}
use Rattle.etcs_messages.specs.declared.phase.Phase.TheVariants.{Number, Length, Front, Packets, Padding, Data, Whole}
use Rattle.etcs_messages.specs.Messages.{values_of, padding_room}
use Rattle.etcs_messages.specs.Lefts.{front_row, front_vars, some_row, headed, left_at, next_at, is_message, stands_at, may_ask, PacketsAfter, HoldsBy, FrontHeld, PacketsHeld, PaddingHeld, DataHeld, MessageState, Left, next_var, MayAsk, HoldsIn}
use Rattle.etcs_messages.specs.Readers.{measured, padded, packed, whole_far, far_at, so_far}
use Rattle.etcs_messages.proofs.Listing.{in_list}
use Rattle.etcs_tables.specs.declared.row.Way.{Way}
use Rattle.etcs_tables.specs.MessageRows.{header_bits}
use Rattle.etcs_rows.specs.declared.frames.Carrier.{Carrier}
use Rattle.etcs_rows.specs.Frames.{way_of}
use Rattle.etcs_sequence.proofs.LabelLaws.{length-widths, labelled_widths}
use Rattle.etcs_messages.proofs.Ways.{asked_few}
use Rattle.etcs_messages.proofs.Fronts.{front_wide}
use Rattle.etcs_messages.proofs.RestStands.{message_inner}
use Rattle.etcs_messages.proofs.Fields.{headed_length}
use Rattle.etcs_messages.proofs.Bytes.{pad_bits, one_bits}

-- L_MESSAGE is given by how many bits there are
measured_is : (nid len more : ℕ) (r q : Reading) → q ≡ headed nid len r → length (spelled q) + more ≡ 8 * len → q ≡ measured nid r more
measured_is nid len more r q e room =
    let l = ap (λ (t : Reading). length (spelled t)) e ∙ headed_length nid len r in
    let same : (18 + length (spelled r) + more) / 8 ≡ len = omega (arith, l, room) in
    e ∙ ap (λ (k : ℕ). headed nid k r) (sym same)

front_far : (way : Way) (nid at : ℕ) (front : List ℕ) (l : PacketsState) (holds : Holds) (q : Reading) → FrontHeld way nid at front l holds q → q ≡ measured nid (labelled (front_vars way nid) front) (widths (drop at (front_vars way nid)) + ahead l.carrier l.room l.stage)
front_far way nid at front l holds q h =
    let m = measured_is nid h.len (widths (drop at h.vars) + ahead l.carrier l.room l.stage) (labelled h.vars front) q h.reading_is h.room_is in
    subst (λ (vs : List Var). q ≡ measured nid (labelled vs front) (widths (drop at vs) + ahead l.carrier l.room l.stage)) (sym (ap some_row h.typed)) m

pub first_goes : (l : PacketsState) → Goes (PacketsAfter l) → Goes (left_of l.carrier l.room l.stage)
first_goes l (r, (a, b, e, h, k)) = (a, h)

packets_are : {P : Type 0} (way : Way) (form : P → Form) (nid : ℕ) (front : List ℕ) (l : PacketsState) (store : PacketList P) (q : Reading) → Goes (PacketsAfter l) → PacketsHeld way nid front l (list_holds form store.packets.items store.numbers.items store.bits) q
    → q ≡ measured nid (labelled (front_vars way nid) front ++ packets_so_far form l.carrier l.stage store.packets.items store.numbers.items store.bits) (ahead l.carrier l.room l.stage)
packets_are way form nid front l store q g h =
    let here = packets_far form l.carrier l.room l.stage store.packets.items store.numbers.items store.bits h.here (first_goes l g) h.held in
    let is = h.reading_is ∙ ap (λ (t : Reading). headed nid h.len (labelled h.vars front ++ t)) here in
    let m = measured_is nid h.len (ahead l.carrier l.room l.stage) (labelled h.vars front ++ packets_so_far form l.carrier l.stage store.packets.items store.numbers.items store.bits) q is h.room_is in
    subst (λ (vs : List Var). q ≡ measured nid (labelled vs front ++ packets_so_far form l.carrier l.stage store.packets.items store.numbers.items store.bits) (ahead l.carrier l.room l.stage)) (sym (ap some_row h.typed)) m

-- bits that fill whole bytes are as many as there is room for
room_for : (n k left len : ℕ) → n + k + left ≡ 8 * len → k + left ≤ 7 → k ≡ padding_room n - left
room_for n k left len whole short = omega (arith, whole, short)

-- PADDING is what is left up to whole bytes
padding_far : {P : Type 0} (way : Way) (form : P → Form) (nid : ℕ) (front : List ℕ) (ps : List P) (f : List ℕ) (k : List Bool) (number left : ℕ) (q : Reading) → PaddingHeld way nid front (list_holds form ps f k) number left q → q ≡ measured nid (padded (packed way form nid front ps) number left) left
padding_far way form nid front ps f k number left q h =
    let a = labelled (front_vars way nid) front in
    let p = readings_to way (values_of form ps) in
    let r = packed way form nid front ps in
    let parts : labelled h.vars front ++ (readings_to way h.packets ++ kept PADDING h.bits) ≡ r ++ kept PADDING h.bits =
    ap (λ (vs : List Var). labelled vs front ++ (readings_to way h.packets ++ kept PADDING h.bits)) (sym (ap some_row h.typed))
    ∙ ap (λ (vs : List PacketValue). a ++ (readings_to way vs ++ kept PADDING h.bits)) h.held.0
    ∙ sym (append_assoc a p (kept PADDING h.bits)) in
    let is = h.reading_is ∙ ap (headed nid h.len) parts in
    let l1 = ap (λ (t : Reading). length (spelled t)) is ∙ headed_length nid h.len (r ++ kept PADDING h.bits) in
    let l2 = ap length (spelled-append r (kept PADDING h.bits)) ∙ length-append (spelled r) (spelled (kept PADDING h.bits)) in
    let count = room_for (18 + length (spelled r)) (length h.bits) left h.len (omega (arith, l1, l2, pad_bits h.bits, h.room_is)) h.short in
    let bits : h.bits ≡ num (padding_room (18 + length (spelled r)) - left) number = h.padding_is ∙ ap (λ (n : ℕ). num n number) count in
    let is' : q ≡ headed nid h.len (padded r number left) = is ∙ ap (λ (b : List Bool). headed nid h.len (r ++ kept PADDING b)) bits in
    measured_is nid h.len left (padded r number left) q is' h.room_is

data_far : {P : Type 0} (way : Way) (form : P → Form) (nid : ℕ) (ps : List P) (f : List ℕ) (k : List Bool) (left : ℕ) (q : Reading) → DataHeld way nid (list_holds form ps f k) left q → q ≡ measured nid (kept OTHER_DATA k) left
data_far way form nid ps f k left q h =
    let (vs_is, (made, (m_is, l_is))) = h.held in
    let is = h.reading_is ∙ ap (λ (b : List Bool). headed nid h.len (kept OTHER_DATA b)) l_is in
    let l = ap (λ (t : Reading). length (spelled t)) is ∙ headed_length nid h.len (kept OTHER_DATA k) in
    measured_is nid h.len left (kept OTHER_DATA k) q is (let n = ap length l_is in omega (arith, l, one_bits k, h.room_is, n))

-- all of them
module _ {P S : Type 0} (form : P → Form) (list : S → PacketList P) (s : MessageState S) (q : Reading) where
  far_by : (phase : Phase) → Goes (left_at s.way s.nid phase s.left) → HoldsBy s.way s.nid phase s.front s.left s.padding (in_list form list s.store) q → q ≡ far_at form (list s.store) phase s
  far_by Number g (z, h, e) = e
  far_by Length g (z, h, e) = e
  far_by (Front at) g (z, h) = front_far s.way s.nid at s.front s.left (in_list form list s.store) q h
  far_by Packets g (z, h) = packets_are s.way form s.nid s.front s.left (list s.store) q g h
  far_by (Padding left) g h = let k = list s.store in padding_far s.way form s.nid s.front k.packets.items k.numbers.items k.bits s.padding left q h
  far_by (Data left) g h = let k = list s.store in data_far s.way form s.nid k.packets.items k.numbers.items k.bits left q h
  far_by Whole g (inl h) =
      let k = list s.store in
      subst (λ (o : Option (List Var)). q ≡ whole_far s.way form o s.nid s.front k s.padding) (sym h.typed) (padding_far s.way form s.nid s.front k.packets.items k.numbers.items k.bits s.padding 0 q h)
  far_by Whole g (inr h) =
      let k = list s.store in
      subst (λ (o : Option (List Var)). q ≡ whole_far s.way form o s.nid s.front k s.padding) (sym h.untyped) (data_far s.way form s.nid k.packets.items k.numbers.items k.bits 0 q h)

  pub far_is : Goes (Left s) → HoldsIn (in_list form list) s q → q ≡ so_far form list s
  far_is g h = far_by s.phase g h

-- ---- How long they are when memory may be asked for.

headed_long : (nid len : ℕ) (r q : Reading) → q ≡ headed nid len r → 18 ≤ length (spelled q)
headed_long nid len r q e = omega (arith, ap (λ (t : Reading). length (spelled t)) e ∙ headed_length nid len r)

never : {A : Type 0} → IsTrue false → A
never a = absurd cc

-- all of the front
front_long : (way : Way) (nid len : ℕ) (vars : List Var) (front : List ℕ) (here q : Reading) → front_row way nid ≡ Some vars → length front ≡ length vars → q ≡ headed nid len (labelled vars front ++ here) → header_bits way + length (spelled here) ≤ length (spelled q)
front_long way nid len vars front here q typed count e =
    let all = ap (λ (t : Reading). length (spelled t)) e ∙ headed_length nid len (labelled vars front ++ here) in
    let parts = ap length (spelled-append (labelled vars front) here) ∙ length-append (spelled (labelled vars front)) (spelled here) in
    let own = length-widths (labelled vars front) ∙ labelled_widths vars front count in
    let wide = front_wide way nid vars typed in
    omega (arith, all, parts, own, wide)

module _ {S : Type 0} (holds : S → Holds) (s : MessageState S) (q : Reading) where
  long_by : (phase : Phase) → IsTrue (may_ask phase s.left) → HoldsBy s.way s.nid phase s.front s.left s.padding (holds s.store) q → 18 ≤ length (spelled q)
  long_by Number a h = never a
  long_by Length a h = never a
  long_by (Front at) a h = never a
  long_by Packets a (z, h) = headed_long s.nid h.len (labelled h.vars s.front ++ h.here) q h.reading_is
  long_by (Padding left) a h = never a
  long_by (Data left) a h = headed_long s.nid h.len (kept OTHER_DATA h.bits) q h.reading_is
  long_by Whole a h = never a

  pub far_long : MayAsk s → HoldsIn holds s q → 18 ≤ length (spelled q)
  far_long a h = long_by s.phase a h

  asks_by : (phase : Phase) (x : Var) → IsTrue (stands_at s.way s.nid phase (length s.front) s.left) → next_at s.way s.nid phase s.left ≡ Some x → Goes (left_at s.way s.nid phase s.left) → IsTrue (may_ask phase s.left) → HoldsBy s.way s.nid phase s.front s.left s.padding (holds s.store) q → IsTrue (asks_memory x) × (asked_from x ≤ length (spelled q))
  asks_by Number x stands e g a h = never a
  asks_by Length x stands e g a h = never a
  asks_by (Front at) x stands e g a h = never a
  asks_by Packets x stands e g a (z, h) =
      let l = s.left in
      let asks = packets_ask l.carrier l.room l.stage (holds s.store) h.here a h.held (first_goes l g) x e in
      let same = (message_inner s.way l (and_parts (is_message s.way l) (not (is_closed l.stage)) stands).0).0 in
      let after : asked_after (way_of l.carrier) ≡ asked_after s.way = ap (λ (c : Carrier). asked_after (way_of c)) same in
      let long = front_long s.way s.nid h.len h.vars s.front h.here q h.typed h.count h.reading_is in
      let few = asked_few s.way in
      (asks.0, omega (arith, asks.1, after, long, few))
  asks_by (Padding left) x stands e g a h = never a
  asks_by (Data left) x stands e g a h = asks_anywhere (length (spelled q)) x OTHER_DATA refl refl cc
  asks_by Whole x stands e g a h = never a

  -- the variable that comes next there asks for it
  pub next_asks : (x : Var) → next_var s ≡ Some x → Goes (Left s) → MayAsk s → HoldsIn holds s q → IsTrue (asks_memory x) × (asked_from x ≤ length (spelled q))
  next_asks x e g a h = asks_by s.phase x s.stands e g a h
