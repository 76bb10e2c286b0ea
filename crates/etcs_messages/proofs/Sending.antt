-- What a sink holds that took what was read of a message.
use Rattle.std.proofs.Common.{◌≡◌, ℕ, zero, suc, ◌+◌, ◌-◌, ◌*◌, ◌/◌, ◌^◌, ◌<◌, ◌≤◌, Bool, List, [], ◌∷◌, ◌++◌, length, take, drop, get_or, Some, None, refl, sym, ap, subst, ◌∙◌, arith, append_assoc, inl, inr}
use Rattle.std.specs.Prelude.{Option, option_map}
use Rattle.std.specs.Option.{unwrap_or}
use Rattle.std.proofs.lemmas.List.{length-append, length-take-le, take_more}
use Rattle.etcs_bits.specs.Bits.{num}
use Rattle.etcs_bits.proofs.Numbers.{length-num}
use Rattle.etcs_vars.specs.declared.var.Var.{Var}
use Rattle.etcs_vars.specs.declared.var.Var.TheVariants.{NID_MESSAGE, PADDING, OTHER_DATA}
use Rattle.etcs_vars.specs.Reading.{Reading, spelled, kept, numbers}
use Rattle.etcs_vars.specs.laws.Spellings.{spelled-append}
use Rattle.etcs_rows.specs.Frames.{way_of}
use Rattle.etcs_packets.specs.PacketValues.{Form}
use Rattle.etcs_packets.specs.PacketReadings.{readings_to}
use Rattle.etcs_reader.specs.Fields.{first_of}
use Rattle.etcs_reader.specs.Rests.{Goes}
use Rattle.etcs_sequence.specs.AtOnce.{Holds}
use Rattle.etcs_sequence.specs.declared.list.PacketList.{PacketList}
use Rattle.etcs_sequence.specs.Labels.{labelled, widths, widths_of}
use Rattle.etcs_sequence.specs.Lefts.{ahead, left_of, Here}
use Rattle.etcs_sequence.specs.Held.{packets_so_far}
use Rattle.etcs_sequence.proofs.LabelLaws.{labelled_more, length-widths, labelled_widths}
use Rattle.etcs_sequence.proofs.Sent.{two_sent}
use Rattle.etcs_messages.specs.declared.phase.Phase.{Phase}
use Rattle.etcs_messages.specs.declared.phase.Phase.TheVariants as phase
use Rattle.etcs_messages.specs.Messages.{values_of, padding_room}
use Rattle.etcs_messages.specs.Lefts.{front_row, front_vars, some_row, front_bits, headed, left_at, HoldsBy, PaddingHeld, DataHeld, MessageState, Left, HoldsIn}
use Rattle.etcs_messages.specs.Readers.{measured, padded, packed, whole_far, far_at, so_far}
use Rattle.etcs_messages.proofs.Bytes.{one_bits, pad_bits}
use Rattle.etcs_messages.proofs.Fields.{headed_length}
use Rattle.etcs_messages.proofs.Listing.{in_list}
use Rattle.etcs_messages.proofs.RestStands.{front_parts, packets_parts}
use Rattle.etcs_messages.proofs.SoFar.{first_goes}

-- ---- The variables before the packets.

-- one more of them
pub labelled_at : (vs : List Var) (ns : List ℕ) (at : ℕ) (x : Var) → at < length ns → Some x ≡ first_of (drop at vs) → labelled vs (take (at + 1) ns) ≡ labelled vs (take at ns) ++ (x, get_or ns at 0) ∷ []
labelled_at vs ns at x lt e =
    let long : length (take at ns) ≡ at = length-take-le at ns (omega (arith, lt)) in
    let next : first_of (drop (length (take at ns)) vs) ≡ Some x = rw long (sym e) in
    ap (labelled vs) (take_more ns at 0 lt) ∙ labelled_more vs (take at ns) x (get_or ns at 0) next

-- no more of them
pub labelled_past : (vs : List Var) (ns : List ℕ) (at : ℕ) → None ≡ first_of (drop at vs) → labelled vs (take at ns) ≡ labelled vs ns
labelled_past [] ns at e = refl
labelled_past (v ∷ vs) ns zero e = absurd cc
labelled_past (v ∷ vs) [] (suc at) e = refl
labelled_past (v ∷ vs) (n ∷ ns) (suc at) e = ap (λ (r : Reading). (v, n) ∷ r) (labelled_past vs ns at e)

-- how many bits they take, and those after them
labelled_left : (vs : List Var) (ns : List ℕ) → widths_of (labelled vs ns) + widths (drop (length ns) vs) ≡ widths vs
labelled_left [] [] = refl
labelled_left [] (n ∷ ns) = refl
labelled_left (v ∷ vs) [] = omega arith
labelled_left (v ∷ vs) (n ∷ ns) = let h = labelled_left vs ns in omega (arith, h)

-- ---- L_MESSAGE.

-- q begins a message of this many bits
pub record Begins (nid total : ℕ) (q : Reading) : Type 0 where
  pub len : ℕ
  pub rest : Reading
  pub most : len < 2 ^ 10
  pub total_is : total ≡ 8 * len
  pub reading_is : q ≡ headed nid len rest

pub begins_few : (nid total : ℕ) (q : Reading) → Begins nid total q → total ≤ 8184
begins_few nid total q h = (let few = h.most in let is = h.total_is in omega (arith, few, is))

pub begins_bytes : (nid total len : ℕ) (r q : Reading) → Begins nid total q → q ≡ headed nid len r → total / 8 ≡ len
begins_bytes nid total len r q h e =
    let ns : numbers (headed nid h.len h.rest) ≡ numbers (headed nid len r) = ap numbers (sym h.reading_is ∙ e) in
    let same : h.len ≡ len = cc in
    let is = h.total_is in
    omega (arith, is, same)

module _ {S : Type 0} (holds : S → Holds) (s : MessageState S) (q : Reading) (held : HoldsIn holds s q) where
  abbrev HoldsFor : Phase → Type 0
  HoldsFor here = HoldsBy s.way s.nid here s.front s.left s.padding (holds s.store) q

  held_for : (here : Phase) → s.phase ≡ here → HoldsFor here
  held_for here e = subst HoldsFor e held

  pub front_begins : (at : ℕ) → s.phase ≡ phase.Front at → Begins s.nid (unwrap_or (option_map front_bits (front_row s.way s.nid)) 0 + ahead s.left.carrier s.left.room s.left.stage) q
  front_begins at e =
      let h = (held_for (phase.Front at) e).1 in
      let count = (front_parts s at e).1 in
      let wide : unwrap_or (option_map front_bits (front_row s.way s.nid)) 0 ≡ 18 + widths h.vars = ap (λ (o : Option (List Var)). unwrap_or (option_map front_bits o) 0) h.typed in
      let a = labelled h.vars s.front in
      let l1 : length (spelled q) ≡ 18 + length (spelled a) = ap (λ (t : Reading). length (spelled t)) h.reading_is ∙ headed_length s.nid h.len a in
      let l2 : length (spelled a) + widths (drop at h.vars) ≡ widths h.vars = ap (λ n. n + widths (drop at h.vars)) (length-widths a) ∙ ap (λ n. widths_of a + widths (drop n h.vars)) (sym count) ∙ labelled_left h.vars s.front in
      let room = h.room_is in
      record { len = h.len; rest = a; most = h.most; total_is = omega (arith, wide, l1, l2, room); reading_is = h.reading_is }

  padding_at : (left : ℕ) → PaddingHeld s.way s.nid s.front (holds s.store) s.padding left q → Begins s.nid (length (spelled q) + left) q
  padding_at left h = record { len = h.len; rest = labelled h.vars s.front ++ (readings_to s.way h.packets ++ kept PADDING h.bits); most = h.most; total_is = h.room_is; reading_is = h.reading_is }

  data_at : (left : ℕ) → DataHeld s.way s.nid (holds s.store) left q → Begins s.nid (length (spelled q) + left) q
  data_at left h =
      let long = ap (λ (t : Reading). length (spelled t)) h.reading_is ∙ headed_length s.nid h.len (kept OTHER_DATA h.bits) in
      let room = h.room_is in
      record { len = h.len; rest = kept OTHER_DATA h.bits; most = h.most; total_is = omega (arith, long, one_bits h.bits, room); reading_is = h.reading_is }

  pub data_begins : (left : ℕ) → s.phase ≡ phase.Data left → Begins s.nid (length (spelled q) + left) q
  data_begins left e = data_at left (held_for (phase.Data left) e)

  -- elsewhere nothing is left, or L_MESSAGE wasn't read
  other_bytes : (here : Phase) → ((at : ℕ) → here ≡ phase.Front at → ⊥) → (here ≡ phase.Packets → ⊥) → ((left : ℕ) → here ≡ phase.Padding left → ⊥) → ((left : ℕ) → here ≡ phase.Data left → ⊥) → HoldsFor here → (len : ℕ) (r : Reading) → q ≡ headed s.nid len r → length (spelled q) / 8 ≡ len
  other_bytes phase.Number a b c d (z, h, is) len r e = absurd (let f : ◌≡◌ {A = Reading} [] (headed s.nid len r) = sym is ∙ e in cc)
  other_bytes phase.Length a b c d (z, h, is) len r e = absurd (let f : ◌≡◌ {A = Reading} ((NID_MESSAGE, s.nid) ∷ []) (headed s.nid len r) = sym is ∙ e in cc)
  other_bytes (phase.Front at) a b c d h len r e = absurd (a at refl)
  other_bytes phase.Packets a b c d h len r e = absurd (b refl)
  other_bytes (phase.Padding left) a b c d h len r e = absurd (c left refl)
  other_bytes (phase.Data left) a b c d h len r e = absurd (d left refl)
  other_bytes phase.Whole a b c d (inl h) len r e = (let all = begins_bytes s.nid (length (spelled q) + 0) len r q (padding_at 0 h) e in omega (arith, all))
  other_bytes phase.Whole a b c d (inr h) len r e = (let all = begins_bytes s.nid (length (spelled q) + 0) len r q (data_at 0 h) e in omega (arith, all))

  pub rest_bytes : ((at : ℕ) → s.phase ≡ phase.Front at → ⊥) → (s.phase ≡ phase.Packets → ⊥) → ((left : ℕ) → s.phase ≡ phase.Padding left → ⊥) → ((left : ℕ) → s.phase ≡ phase.Data left → ⊥) → (len : ℕ) (r : Reading) → q ≡ headed s.nid len r → length (spelled q) / 8 ≡ len
  rest_bytes a b c d len r e = other_bytes s.phase a b c d held len r e

-- ---- All that was read.

-- three runs, which are all of q
pub all_sent : {S : Type 0} (with : S → Reading → S) → ((s : S) (a b : Reading) → with s (a ++ b) ≡ with (with s a) b) → (old one two new : S) (a b d q : Reading) → one ≡ with old a → two ≡ with one b → new ≡ with two d → q ≡ a ++ (b ++ d) → new ≡ with old q
all_sent with both old one two new a b d q first second third is = two_sent with both old one new a (b ++ d) q first (two_sent with both one two new b d (b ++ d) second third refl) is

-- how many bits they are after a whole front
front_long : (nid len : ℕ) (vars : List Var) (front : List ℕ) (rest q : Reading) → length front ≡ length vars → q ≡ headed nid len (labelled vars front ++ rest) → length (spelled q) ≡ front_bits vars + length (spelled rest)
front_long nid len vars front rest q count e =
    let a = labelled vars front in
    let l1 = ap (λ (t : Reading). length (spelled t)) e ∙ headed_length nid len (a ++ rest) in
    let l2 = ap length (spelled-append a rest) ∙ length-append (spelled a) (spelled rest) in
    let l3 = length-widths a ∙ labelled_widths vars front count in
    omega (arith, l1, l2, l3)

module _ {P S : Type 0} (form : P → Form) (list : S → PacketList P) (s : MessageState S) where
  abbrev pub packets : Reading
  packets = readings_to s.way (values_of form (list s.store).packets.items)

  abbrev pub read_so_far : Reading
  read_so_far = packets_so_far form s.left.carrier s.left.stage (list s.store).packets.items (list s.store).numbers.items (list s.store).bits

  far_for : (here : Phase) → s.phase ≡ here → so_far form list s ≡ far_at form (list s.store) here s
  far_for here e = ap (λ (p : Phase). far_at form (list s.store) p s) e

  -- by what is held, and L_MESSAGE
  module _ (held : HoldsIn (in_list form list) s (so_far form list s)) (bytes : ℕ) (counted : (len : ℕ) (r : Reading) → so_far form list s ≡ headed s.nid len r → bytes ≡ len) where
    abbrev HeldFor : Phase → Type 0
    HeldFor here = HoldsBy s.way s.nid here s.front s.left s.padding (in_list form list s.store) (so_far form list s)

    held_at : (here : Phase) → s.phase ≡ here → HeldFor here
    held_at here e = subst HeldFor e held

    measured_by : (r : Reading) (more : ℕ) → so_far form list s ≡ measured s.nid r more → so_far form list s ≡ headed s.nid bytes r
    measured_by r more e = e ∙ ap (λ n. headed s.nid n r) (sym (counted ((18 + length (spelled r) + more) / 8) r e))

    module _ (vars : List Var) (typed : front_row s.way s.nid ≡ Some vars) where
      same_vars : (vs : List Var) → front_row s.way s.nid ≡ Some vs → vs ≡ vars
      same_vars vs e = let both : Some vs ≡ Some vars = sym e ∙ typed in cc

      -- if no packet was read, nor a bit of PADDING
      front_by : (here : Phase) → (here ≡ phase.Number → ⊥) → (here ≡ phase.Length → ⊥) → (here ≡ phase.Packets → ⊥) → ((left : ℕ) → here ≡ phase.Padding left → ⊥) → (here ≡ phase.Whole → ⊥) → HeldFor here → so_far form list s ≡ far_at form (list s.store) here s → so_far form list s ≡ headed s.nid bytes (labelled vars s.front)
      front_by phase.Number a b c d f h e = absurd (a refl)
      front_by phase.Length a b c d f h e = absurd (b refl)
      front_by (phase.Front at) a b c d f h e =
          measured_by (labelled (front_vars s.way s.nid) s.front) (widths (drop at (front_vars s.way s.nid)) + ahead s.left.carrier s.left.room s.left.stage) e
          ∙ ap (λ (o : Option (List Var)). headed s.nid bytes (labelled (some_row o) s.front)) typed
      front_by phase.Packets a b c d f h e = absurd (c refl)
      front_by (phase.Padding left) a b c d f h e = absurd (d left refl)
      front_by (phase.Data left) a b c d f h e = absurd (let no : Some vars ≡ None = sym typed ∙ h.untyped in cc)
      front_by phase.Whole a b c d f h e = absurd (f refl)

      pub front_read : (s.phase ≡ phase.Number → ⊥) → (s.phase ≡ phase.Length → ⊥) → (s.phase ≡ phase.Packets → ⊥) → ((left : ℕ) → s.phase ≡ phase.Padding left → ⊥) → (s.phase ≡ phase.Whole → ⊥) → so_far form list s ≡ headed s.nid bytes (labelled vars s.front)
      front_read a b c d f = front_by s.phase a b c d f held refl

      -- if packets are read
      pub packets_read : s.phase ≡ phase.Packets → (so_far form list s ≡ headed s.nid bytes (labelled vars s.front ++ read_so_far)) × (length (spelled (so_far form list s)) ≡ front_bits vars + length (spelled read_so_far))
      packets_read e =
          let h = (held_at phase.Packets e).1 in
          let is : so_far form list s ≡ headed s.nid bytes (labelled vars s.front ++ read_so_far) =
          measured_by (labelled (front_vars s.way s.nid) s.front ++ read_so_far) (ahead s.left.carrier s.left.room s.left.stage) (far_for phase.Packets e)
          ∙ ap (λ (o : Option (List Var)). headed s.nid bytes (labelled (some_row o) s.front ++ read_so_far)) typed in
          let count : length s.front ≡ length vars = h.count ∙ ap (λ (vs : List Var). length vs) (same_vars h.vars h.typed) in
          (is, front_long s.nid bytes vars s.front read_so_far (so_far form list s) count is)

      -- if PADDING is read, or all was
      padded_by : (left : ℕ) → PaddingHeld s.way s.nid s.front (in_list form list s.store) s.padding left (so_far form list s) → so_far form list s ≡ measured s.nid (padded (packed s.way form s.nid s.front (list s.store).packets.items) s.padding left) left
          → (count : ℕ) × (count ≤ 7) × (so_far form list s ≡ headed s.nid bytes (labelled vars s.front ++ (packets ++ kept PADDING (num count s.padding)))) × (length (spelled (so_far form list s)) ≡ front_bits vars + (length (spelled packets) + count))
      padded_by left h e =
          let count = padding_room (18 + length (spelled (packed s.way form s.nid s.front (list s.store).packets.items))) - left in
          let t = kept PADDING (num count s.padding) in
          let is : so_far form list s ≡ headed s.nid bytes (labelled vars s.front ++ (packets ++ t)) =
          measured_by (padded (packed s.way form s.nid s.front (list s.store).packets.items) s.padding left) left e
          ∙ ap (λ (o : Option (List Var)). headed s.nid bytes ((labelled (some_row o) s.front ++ packets) ++ t)) typed
          ∙ ap (headed s.nid bytes) (append_assoc (labelled vars s.front) packets t) in
          let whole : length s.front ≡ length vars = h.count ∙ ap (λ (vs : List Var). length vs) (same_vars h.vars h.typed) in
          let long = front_long s.nid bytes vars s.front (packets ++ t) (so_far form list s) whole is in
          let l1 = ap length (spelled-append packets t) ∙ length-append (spelled packets) (spelled t) in
          let l2 = pad_bits (num count s.padding) ∙ length-num count s.padding in
          (count, omega arith, is, omega (arith, long, l1, l2))

      abbrev pub Padded : Type 0
      Padded = (count : ℕ) × (count ≤ 7) × (so_far form list s ≡ headed s.nid bytes (labelled vars s.front ++ (packets ++ kept PADDING (num count s.padding)))) × (length (spelled (so_far form list s)) ≡ front_bits vars + (length (spelled packets) + count))

      pub padding_read : (left : ℕ) → s.phase ≡ phase.Padding left → Padded
      padding_read left e = padded_by left (held_at (phase.Padding left) e) (far_for (phase.Padding left) e)

      whole_by : HeldFor phase.Whole → so_far form list s ≡ far_at form (list s.store) phase.Whole s → Padded
      whole_by (inl h) e = padded_by 0 h (e ∙ ap (λ (o : Option (List Var)). whole_far s.way form o s.nid s.front (list s.store) s.padding) typed)
      whole_by (inr h) e = absurd (let no : Some vars ≡ None = sym typed ∙ h.untyped in cc)

      pub whole_read : s.phase ≡ phase.Whole → Padded
      whole_read e = whole_by (held_at phase.Whole e) (far_for phase.Whole e)

-- ---- What the packets want.

module _ {P S : Type 0} (form : P → Form) (list : S → PacketList P) (s : MessageState S) (e : s.phase ≡ phase.Packets) where
  pub packets_way : way_of s.left.carrier ≡ s.way
  packets_way = ap way_of (packets_parts s e).0

  pub packets_go : Goes (Left s) → Goes (left_of s.left.carrier s.left.room s.left.stage)
  packets_go g = first_goes s.left (subst (λ (p : Phase). Goes (left_at s.way s.nid p s.left)) e g)

  pub packets_here : (q : Reading) → HoldsIn (in_list form list) s q → (h : Reading) × Here s.left.carrier s.left.stage (list s.store).numbers.items (list s.store).bits h
  packets_here q held =
      let k = list s.store in
      let h = (subst (λ (p : Phase). HoldsBy s.way s.nid p s.front s.left s.padding (in_list form list s.store) q) e held).1 in
      let (vs, f, b, r, (vs_is, (made, (f_is, b_is))), carried, here, is) = h.held in
      (r, subst (λ (x : List ℕ). Here s.left.carrier s.left.stage x k.bits r) f_is (subst (λ (x : List Bool). Here s.left.carrier s.left.stage f x r) b_is here))
