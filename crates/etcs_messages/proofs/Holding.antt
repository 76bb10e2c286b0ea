-- What a reader of messages holds.
use Rattle.std.proofs.Common.{◌≡◌, ℕ, ◌%◌, ◌<◌, ◌&&◌, List, Bool, false, [], ◌++◌, length, Some, sym, ap, subst, ◌∙◌, arith, inl, inr}
use Rattle.std.specs.Prelude.{All, IsTrue, not, nat_lt, ◌==◌}
use Rattle.std.proofs.lemmas.Bool.{and_parts, ltb-true, eqb-true, not-true}
use Rattle.std.proofs.lemmas.List.{length-append}
use Rattle.std.proofs.lemmas.List.Elements.{All-nil}
use Rattle.etcs_vars.specs.declared.var.Var.{Var}
use Rattle.etcs_vars.specs.declared.var.Var.TheVariants.{PADDING, OTHER_DATA}
use Rattle.etcs_vars.specs.Vars.{width}
use Rattle.etcs_vars.specs.Reading.{Reading, spelled, kept}
use Rattle.etcs_tables.specs.declared.row.Way.{Way}
use Rattle.etcs_rows.specs.declared.frames.Carrier.{Carrier}
use Rattle.etcs_rows.specs.declared.frames.Carrier.TheVariants.{Message}
use Rattle.etcs_rows.specs.Frames.{way_of}
use Rattle.etcs_packets.specs.PacketValues.{Form, IsPacketTo}
use Rattle.etcs_packets.specs.PacketReadings.{readings_to}
use Rattle.etcs_sequence.specs.Contents.{Carries}
use Rattle.etcs_sequence.specs.Runs.{Begun}
use Rattle.etcs_reader.specs.Rests.{Goes}
use Rattle.etcs_sequence.specs.declared.state.PacketsState.{PacketsState}
use Rattle.etcs_sequence.specs.Labels.{labelled}
use Rattle.etcs_sequence.specs.Lefts.{is_closed}
use Rattle.etcs_sequence.specs.declared.list.PacketList.{PacketList}
use Rattle.etcs_sequence.specs.Held.{list_holds}
use Rattle.etcs_sequence.proofs.Begun.{begun_of, nothing_held, none_listed}
use Rattle.etcs_messages.specs.declared.phase.Phase.{Phase}
use Rattle.etcs_messages.specs.declared.phase.Phase.TheVariants.{Number, Length, Front, Packets, Padding, Data, Whole}
use Rattle.etcs_messages.specs.Messages.{values_of}
use Rattle.etcs_messages.specs.Lefts.{front_vars, some_row, headed, left_at, next_at, is_message, stands_at, PacketsAfter, HoldsBy, FrontHeld, PacketsHeld, PaddingHeld, DataHeld, MessageState, Left, next_var, HoldsIn}
use Rattle.etcs_messages.specs.Readers.{Standing, Members}
use Rattle.etcs_messages.proofs.Faults.{carried_packets}
use Rattle.etcs_messages.proofs.Listing.{in_list}
use Rattle.etcs_messages.proofs.SoFar.{first_goes}
use Rattle.etcs_messages.proofs.RestStands.{message_inner}

-- no packet, number or bit is held
none_held : {P : Type 0} (form : P → Form) (ps : List P) (f : List ℕ) (k : List Bool) → list_holds form ps f k [] [] [] → (ps ≡ []) × (f ≡ []) × (k ≡ [])
none_held form ps f k (vs_is, (made, (m_is, l_is))) = (none_listed form ps vs_is, sym m_is, sym l_is)

front_members : {P : Type 0} (way : Way) (form : P → Form) (nid at : ℕ) (front : List ℕ) (l : PacketsState) (ps : List P) (f : List ℕ) (k : List Bool) (q : Reading) → IsTrue (stands_at way nid (Front at) (length front) l) → FrontHeld way nid at front l (list_holds form ps f k) q → Standing way form ps f k q
front_members way form nid at front l ps f k q stands h =
    let (ps_is, f_is, k_is) = nothing_held form l.carrier l.stage ps f k h.none in
    let both = and_parts (nat_lt at (length (front_vars way nid))) ((length front == at) && is_message way l) stands in
    let same = eqb-true (length front) at (and_parts (length front == at) (is_message way l) both.1).0 in
    let less = ltb-true at (length (front_vars way nid)) both.0 in
    let vars = ap (λ o. length (some_row o)) h.typed in
    inl (inr (inr (nid, h.len, h.vars, front, h.typed, omega (arith, same, less, vars), h.reading_is)), ps_is, f_is, k_is)

packets_members : {P : Type 0} (way : Way) (form : P → Form) (nid : ℕ) (front : List ℕ) (l : PacketsState) (ps : List P) (f : List ℕ) (k : List Bool) (q : Reading) → l.carrier ≡ Message way → is_closed l.stage ≡ false → Goes (PacketsAfter l) → PacketsHeld way nid front l (list_holds form ps f k) q → Standing way form ps f k q
packets_members way form nid front l ps f k q same more g h =
    let (vs, m, b, r, (vs_is, (made, (m_is, b_is))), carried, here, e) = h.held in
    let begun : Begun way r m b = subst (λ (c : Carrier). Begun (way_of c) r m b) same (begun_of l.carrier l.room l.stage m b r l.stands more (first_goes l g) here) in
    let whole = h.reading_is ∙ ap (λ (t : Reading). headed nid h.len (labelled h.vars front ++ t)) (e ∙ ap (λ (t : Reading). t ++ r) (ap (λ (c : Carrier). readings_to (way_of c) vs) same) ∙ ap (λ v. readings_to way v ++ r) vs_is) in
    inr (inl (nid, h.len, h.vars, front, r, h.typed, h.count, whole, subst (λ (t : List Bool). Begun way r f t) b_is (subst (λ (t : List ℕ). Begun way r t b) m_is begun)))

data_members : {P : Type 0} (way : Way) (form : P → Form) (nid left : ℕ) (ps : List P) (f : List ℕ) (k : List Bool) (q : Reading) → DataHeld way nid (list_holds form ps f k) left q → Standing way form ps f k q
data_members way form nid left ps f k q h =
    let (vs_is, (made, (m_is, b_is))) = h.held in
    inr (inr ((nid, h.len, h.untyped, h.reading_is ∙ ap (λ (b : List Bool). headed nid h.len (kept OTHER_DATA b)) b_is), none_listed form ps vs_is, sym m_is))

-- between two pieces no bit of PADDING was read: all bits are whole bytes, and fewer are left than one
module _ {P S : Type 0} (form : P → Form) (list : S → PacketList P) (s : MessageState S) (q : Reading) where
  members_by : (phase : Phase) (part : List Bool) (x : Var) → IsTrue (stands_at s.way s.nid phase (length s.front) s.left) → next_at s.way s.nid phase s.left ≡ Some x → Goes (left_at s.way s.nid phase s.left) → HoldsBy s.way s.nid phase s.front s.left s.padding (in_list form list s.store) q → length part < width x → length (spelled q ++ part) % 8 ≡ 0
      → (let k = list s.store in Standing s.way form k.packets.items k.numbers.items k.bits q)
  members_by Number part x stands e g (z, h, is) short bytes = let k = list s.store in let (a, b, c) = none_held form k.packets.items k.numbers.items k.bits h in inl (inl is, a, b, c)
  members_by Length part x stands e g (z, h, is) short bytes = let k = list s.store in let (a, b, c) = none_held form k.packets.items k.numbers.items k.bits h in inl (inr (inl (s.nid, is)), a, b, c)
  members_by (Front at) part x stands e g (z, h) short bytes = let k = list s.store in front_members s.way form s.nid at s.front s.left k.packets.items k.numbers.items k.bits q stands h
  members_by Packets part x stands e g (z, h) short bytes =
      let k = list s.store in
      let both = and_parts (is_message s.way s.left) (not (is_closed s.left.stage)) stands in
      packets_members s.way form s.nid s.front s.left k.packets.items k.numbers.items k.bits q (message_inner s.way s.left both.0).0 (not-true (is_closed s.left.stage) both.1) g h
  members_by (Padding left) part x stands e g h short bytes =
      let both = and_parts (nat_lt 0 left) (nat_lt left 8) stands in
      let some = ltb-true 0 left both.0 in
      let few = ltb-true left 8 both.1 in
      let same : PADDING ≡ x = cc in
      let one : length part < width PADDING = subst (λ (v : Var). length part < width v) (sym same) short in
      let none : length part ≡ 0 = omega (arith, one) in
      let room = h.room_is in
      absurd (omega (arith, some, few, none, room, bytes, length-append (spelled q) part))
  members_by (Data left) part x stands e g h short bytes = let k = list s.store in data_members s.way form s.nid left k.packets.items k.numbers.items k.bits q h
  members_by Whole part x stands e g h short bytes = absurd cc

-- ---- Its packets are whole ones.

-- each of them is made, and goes this way
abbrev AreWhole : {P : Type 0} → Way → (P → Form) → List P → Type 0
AreWhole way form ps = All (λ p. (form p).made) ps × All (IsPacketTo way) (values_of form ps)

none_whole : {P : Type 0} (way : Way) (form : P → Form) (ps : List P) → ps ≡ [] → AreWhole way form ps
none_whole way form ps e = subst (AreWhole way form) (sym e) (All-nil (λ p. (form p).made), All-nil (IsPacketTo way))

packets_whole : {P : Type 0} (way : Way) (form : P → Form) (nid : ℕ) (front : List ℕ) (l : PacketsState) (ps : List P) (f : List ℕ) (k : List Bool) (q : Reading) → l.carrier ≡ Message way → PacketsHeld way nid front l (list_holds form ps f k) q → AreWhole way form ps
packets_whole way form nid front l ps f k q to h =
    let (vs, m, b, r, (vs_is, (made, same)), carried, here, e) = h.held in
    (made, subst (All (IsPacketTo way)) vs_is (carried_packets way vs (subst (λ (c : Carrier). All (Carries c) vs) to carried)))

padding_whole : {P : Type 0} (way : Way) (form : P → Form) (nid : ℕ) (front : List ℕ) (ps : List P) (f : List ℕ) (k : List Bool) (number left : ℕ) (q : Reading) → PaddingHeld way nid front (list_holds form ps f k) number left q → AreWhole way form ps
padding_whole way form nid front ps f k number left q h = (h.held.1.0, subst (All (IsPacketTo way)) h.held.0 (carried_packets way h.packets h.carried))

module _ {P S : Type 0} (form : P → Form) (list : S → PacketList P) (s : MessageState S) (q : Reading) where
  whole_by : (phase : Phase) → IsTrue (stands_at s.way s.nid phase (length s.front) s.left) → HoldsBy s.way s.nid phase s.front s.left s.padding (in_list form list s.store) q → AreWhole s.way form (list s.store).packets.items
  whole_by Number stands (z, h, is) = let k = list s.store in none_whole s.way form k.packets.items (none_held form k.packets.items k.numbers.items k.bits h).0
  whole_by Length stands (z, h, is) = let k = list s.store in none_whole s.way form k.packets.items (none_held form k.packets.items k.numbers.items k.bits h).0
  whole_by (Front at) stands (z, h) = let k = list s.store in none_whole s.way form k.packets.items (nothing_held form s.left.carrier s.left.stage k.packets.items k.numbers.items k.bits h.none).0
  whole_by Packets stands (z, h) = let k = list s.store in packets_whole s.way form s.nid s.front s.left k.packets.items k.numbers.items k.bits q (message_inner s.way s.left (and_parts (is_message s.way s.left) (not (is_closed s.left.stage)) stands).0).0 h
  whole_by (Padding left) stands h = let k = list s.store in padding_whole s.way form s.nid s.front k.packets.items k.numbers.items k.bits s.padding left q h
  whole_by (Data left) stands h = none_whole s.way form (list s.store).packets.items (none_listed form (list s.store).packets.items h.held.0)
  whole_by Whole stands (inl h) = let k = list s.store in padding_whole s.way form s.nid s.front k.packets.items k.numbers.items k.bits s.padding 0 q h
  whole_by Whole stands (inr h) = none_whole s.way form (list s.store).packets.items (none_listed form (list s.store).packets.items h.held.0)

  pub members_at : (part : List Bool) (x : Var) → next_var s ≡ Some x → Goes (Left s) → HoldsIn (in_list form list) s q → length part < width x → length (spelled q ++ part) % 8 ≡ 0
      → (let k = list s.store in Members s.way form k.packets.items k.numbers.items k.bits q)
  members_at part x e g h short bytes =
      let whole = whole_by s.phase s.stands h in
      (members_by form list s q s.phase part x s.stands e g h short bytes, whole.0, whole.1)
