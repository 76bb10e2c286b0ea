-- What is kept of a telegram after each of its variables.
use Rattle.std.proofs.Common.{◌≡◌, ℕ, zero, suc, ◌+◌, ◌-◌, ◌<◌, ◌≤◌, Bool, false, List, [], ◌∷◌, ◌++◌, length, drop, Some, refl, sym, ap, subst, ◌∙◌, arith, ltb, append_assoc, append-nil, length-append}
use Rattle.std.specs.Prelude.{All, IsTrue, replicate}
use mathlib.Core.Bool.{Bool-set}
use Rattle.etcs_vars.specs.declared.var.Var.{Var}
use Rattle.etcs_vars.specs.declared.var.Var.TheVariants.{FILL, PAD}
use Rattle.etcs_vars.specs.Reading.{Reading, kept}
use Rattle.etcs_vars.specs.Walking.{Residual}
use Rattle.etcs_rows.specs.declared.frames.Carrier.{Carrier}
use Rattle.etcs_rows.specs.declared.frames.Carrier.TheVariants.{Telegram}
use Rattle.etcs_rows.specs.Frames.{way_of}
use Rattle.etcs_packets.specs.PacketValues.{PacketValue, IsPacket}
use Rattle.etcs_packets.specs.PacketReadings.{readings_to}
use Rattle.etcs_sequence.specs.Contents.{Carries, closing}
use Rattle.etcs_reader.specs.Rests.{Starts, Goes}
use Rattle.etcs_reader.specs.Fields.{first_of}
use Rattle.etcs_sequence.specs.AtOnce.{Holds}
use Rattle.etcs_sequence.specs.declared.state.PacketsState.{PacketsState}
use Rattle.etcs_sequence.specs.declared.stage.Stage.TheVariants as stage
use Rattle.etcs_sequence.specs.Labels.{labelled}
use Rattle.etcs_sequence.proofs.LabelLaws.{labelled_more}
use Rattle.etcs_sequence.specs.Fronts.{FrontAt}
use Rattle.etcs_telegram.proofs.FrontSteps.{front_all}
use Rattle.etcs_sequence.specs.Lefts.{left_of, is_closed, HoldsAt}
use Rattle.etcs_sequence.proofs.Leaps.{Steps, same_made}
use Rattle.etcs_sequence.specs.laws.BitLaws.{bits_append}
use Rattle.etcs_sequence.proofs.StageLaws.{closed_stage}
use Rattle.etcs_telegram.specs.declared.size.Size.{Size}
use Rattle.etcs_telegram.specs.declared.phase.Phase.{Phase}
use Rattle.etcs_telegram.specs.declared.phase.Phase.TheVariants.{Header, Packets, Fill, Pad, Whole}
use Rattle.etcs_telegram.specs.Telegrams.{pad_bits, closed_reading}
use Rattle.etcs_tables.specs.Headers.{header_row}
use Rattle.etcs_telegram.specs.Phases.{PadLeft, after_header, after_pad, after_fill}
use Rattle.etcs_telegram.specs.Lefts.{PacketsAfter, left_at, next_at, stands_at, after_packets, FillFits, Filled, HoldsBy, TelegramState, Left, next_var, Follows}
use Rattle.etcs_telegram.proofs.PhaseSteps.{by_test, below_false, below_true}
use Rattle.etcs_telegram.proofs.RestSteps.{header_beyond, packets_after, fill_after, pad_beyond, header_parts, packets_parts, pad_parts}

-- ---- The header.

header_held : (size : Size) (at : ℕ) (header : List ℕ) (l : PacketsState) (holds : Holds) (x : Var) (n : ℕ) (q : Reading)
    → length header ≡ at → next_at (Header at) l ≡ Some x → HoldsBy size (Header at) header l holds q → HoldsBy size (after_header at) (header ++ n ∷ []) l holds (q ++ (x, n) ∷ [])
header_held size at header l holds x n q len e (is, none) =
    let e' : first_of (drop (length header) header_row) ≡ Some x = rw len e in
    let all : q ++ (x, n) ∷ [] ≡ labelled header_row (header ++ n ∷ []) = ap (λ (t : Reading). t ++ (x, n) ∷ []) is ∙ sym (labelled_more header_row header x n e') in
    by_test (ltb at 9) (λ p. HoldsBy size p (header ++ n ∷ []) l holds (q ++ (x, n) ∷ [])) (Header (at + 1)) Packets
    (λ _. (all, none))
    (λ _. ([], all ∙ sym (append-nil (labelled header_row (header ++ n ∷ []))), none))

-- ---- The packets.

telegram_carries : (vs : List PacketValue) → All (Carries Telegram) vs → All IsPacket vs
telegram_carries vs a = λ i d lt. a i d lt

-- packets that are closed, with none of FILL
closed_held : (header : List ℕ) (c : Carrier) (room : ℕ) (holds : Holds) (q h : Reading) → length header ≡ 10 → c ≡ Telegram → q ≡ labelled header_row header ++ h → HoldsAt c stage.Closed holds h → Filled header holds room room 0 q
closed_held header c room holds q h ten same is (vs, f, k, t, held, carried, (no_numbers, no_bits, all), reading) =
    let p = closed_reading vs in
    let h-is : h ≡ p = reading ∙ ap (λ (x : Reading). readings_to (way_of c) vs ++ x) (all ∙ ap closing same) ∙ ap (λ (d : Carrier). readings_to (way_of d) vs ++ closing Telegram) same in
    record {
      ten = ten;
      packets = vs;
      fill = [];
      held = subst (λ (x : List ℕ). holds vs x []) no_numbers (subst (λ (x : List Bool). holds vs f x) no_bits held);
      carried = telegram_carries vs (subst (λ (x : Carrier). All (Carries x) vs) same carried);
      room_is = omega arith;
      reading_is = is ∙ ap (λ (x : Reading). labelled header_row header ++ x) (h-is ∙ sym (append-nil p));
    }

-- what is left of FILL after this many bits, or PAD
fill_first : (size : Size) (header : List ℕ) (l : PacketsState) (holds : Holds) (left n : ℕ) (q : Reading) → n ≤ left → Filled header holds l.room (left - n) 0 q → HoldsBy size (after_fill size left n) header l holds q
fill_first size header l holds left n q le h =
    by_test (ltb n left) (λ p. HoldsBy size p header l holds q) (Fill (left - n)) (Pad (pad_bits size))
    (λ _. h)
    (λ t. let e : left - n ≡ 0 = (let b = below_false n left t in omega arith) in (0, omega arith, subst (λ m. Filled header holds l.room m 0 q) e h))

packets_held : (size : Size) (header : List ℕ) (l l' : PacketsState) (holds holds' : Holds) (p : Reading) → length header ≡ 10 → l'.carrier ≡ Telegram
    → ((q : Reading) → HoldsAt l.carrier l.stage holds q → HoldsAt l'.carrier l'.stage holds' (q ++ p)) → (q : Reading) → HoldsBy size Packets header l holds q → HoldsBy size (after_packets size l') header l' holds' (q ++ p)
packets_held size header l l' holds holds' p ten same h q (t, is, held) =
    let all : q ++ p ≡ labelled header_row header ++ (t ++ p) = ap (λ (x : Reading). x ++ p) is ∙ append_assoc (labelled header_row header) t p in
    by_test (is_closed l'.stage) (λ x. HoldsBy size x header l' holds' (q ++ p)) (after_fill size l'.room 0) Packets
    (λ e. let none : l'.room ≡ l'.room - 0 = omega arith in
    let closed = closed_held header l'.carrier l'.room holds' (q ++ p) (t ++ p) ten same all (rw (closed_stage l'.stage e) at (h t held)) in
    fill_first size header l' holds' l'.room 0 (q ++ p) (omega arith) (subst (λ m. Filled header holds' l'.room m 0 (q ++ p)) none closed))
    (λ _. (t ++ p, all, h t held))

-- FILL has room after them
packets_fit : (size : Size) (l : PacketsState) (holds : Holds) (q : Reading) → HoldsAt l.carrier l.stage holds q → FillFits (after_packets size l) holds
packets_fit size l holds q held =
    by_test (is_closed l.stage) (λ x. FillFits x holds) (after_fill size l.room 0) Packets
    (λ e. closed_fits size l.carrier l.room holds q l.small (rw (closed_stage l.stage e) at held))
    (λ _. tt)
  where
    closed_fits : (size : Size) (c : Carrier) (room : ℕ) (holds : Holds) (q : Reading) → room ≤ 8191 → HoldsAt c stage.Closed holds q → FillFits (after_fill size room 0) holds
    closed_fits size c room holds q small (vs, f, k, t, held, carried, (no_numbers, no_bits, all), reading) =
        by_test (ltb 0 room) (λ x. FillFits x holds) (Fill (room - 0)) (Pad (pad_bits size))
        (λ _. (vs, [], subst (λ (x : List ℕ). holds vs x []) no_numbers (subst (λ (x : List Bool). holds vs f x) no_bits held), omega (arith, small)))
        (λ _. tt)

pub packets_fits : {S : Type 0} (s : TelegramState S) (phase : Phase) (l : PacketsState) (holds holds' : Holds) (p : Reading) → s.phase ≡ Packets → phase ≡ after_packets s.size l → Steps s.left l holds holds' p → (is_closed s.left.stage ≡ false → (q : Reading) × HoldsAt s.left.carrier s.left.stage holds q) → FillFits phase holds'
packets_fits s phase l holds holds' p e e' steps some =
    let h = some (packets_parts s e).2 in
    rw e' (packets_fit s.size l holds' (h.0 ++ p) (steps.1 h.0 h.1))

-- ---- FILL and PAD.

-- bits more of FILL
filled_more : (header : List ℕ) (holds holds' : Holds) (room left : ℕ) (t : List Bool) (q : Reading) → length t ≤ left → ((vs : List PacketValue) (k : List Bool) → holds vs [] k → holds' vs [] (k ++ t)) → Filled header holds room left 0 q
    → Filled header holds' room (left - length t) 0 (q ++ kept FILL t)
filled_more header holds holds' room left t q le more f =
    let h = labelled header_row header in
    let p = closed_reading f.packets in
    let all : q ++ kept FILL t ≡ h ++ (p ++ (kept FILL (f.fill ++ t) ++ [])) =
    ap (λ (x : Reading). x ++ kept FILL t) (f.reading_is ∙ ap (λ (x : Reading). h ++ (p ++ x)) (append-nil (kept FILL f.fill)))
    ∙ append_assoc h (p ++ kept FILL f.fill) (kept FILL t)
    ∙ ap (λ (x : Reading). h ++ x) (append_assoc p (kept FILL f.fill) (kept FILL t))
    ∙ ap (λ (x : Reading). h ++ (p ++ x)) (sym (bits_append FILL f.fill t) ∙ sym (append-nil (kept FILL (f.fill ++ t)))) in
    record {
      ten = f.ten;
      packets = f.packets;
      fill = f.fill ++ t;
      held = more f.packets f.fill f.held;
      carried = f.carried;
      room_is = (let n = f.room_is in omega (arith, n, le, length-append f.fill t));
      reading_is = all;
    }

fill_held : (size : Size) (left : ℕ) (header : List ℕ) (l : PacketsState) (holds holds' : Holds) (t : List Bool) → length t ≤ left → ((vs : List PacketValue) (k : List Bool) → holds vs [] k → holds' vs [] (k ++ t))
    → (q : Reading) → Filled header holds l.room left 0 q → HoldsBy size (after_fill size left (length t)) header l holds' (q ++ kept FILL t)
fill_held size left header l holds holds' t le more q h = fill_first size header l holds' left (length t) (q ++ kept FILL t) le (filled_more header holds holds' l.room left t q le more h)

fill_fits : (size : Size) (left : ℕ) (holds holds' : Holds) (t : List Bool) → length t ≤ left → ((vs : List PacketValue) (k : List Bool) → holds vs [] k → holds' vs [] (k ++ t)) → FillFits (Fill left) holds → FillFits (after_fill size left (length t)) holds'
fill_fits size left holds holds' t le more (vs, k, h, small) =
    by_test (ltb (length t) left) (λ x. FillFits x holds') (Fill (left - length t)) (Pad (pad_bits size))
    (λ _. (vs, k ++ t, more vs k h, omega (arith, length-append k t, small, le)))
    (λ _. tt)

zeros_more : (n : ℕ) → kept PAD (replicate (suc n) false) ≡ kept PAD (replicate n false) ++ (PAD, 0) ∷ []
zeros_more zero = refl
zeros_more (suc n) = ap (λ (t : Reading). (PAD, 0) ∷ t) (zeros_more n)

-- a zero more of PAD
padded_more : (header : List ℕ) (holds : Holds) (room zeros : ℕ) (q : Reading) → Filled header holds room 0 zeros q → Filled header holds room 0 (suc zeros) (q ++ (PAD, 0) ∷ [])
padded_more header holds room zeros q f =
    let h = labelled header_row header in
    let p = closed_reading f.packets in
    let k = kept FILL f.fill in
    let z = kept PAD (replicate zeros false) in
    let one : Reading = (PAD, 0) ∷ [] in
    let all : q ++ one ≡ h ++ (p ++ (k ++ kept PAD (replicate (suc zeros) false))) =
    ap (λ (x : Reading). x ++ one) f.reading_is
    ∙ append_assoc h (p ++ (k ++ z)) one
    ∙ ap (λ (x : Reading). h ++ x) (append_assoc p (k ++ z) one ∙ ap (λ (x : Reading). p ++ x) (append_assoc k z one ∙ ap (λ (x : Reading). k ++ x) (sym (zeros_more zeros)))) in
    record { ten = f.ten; packets = f.packets; fill = f.fill; held = f.held; carried = f.carried; room_is = f.room_is; reading_is = all }

pad_held : (size : Size) (left : ℕ) (header : List ℕ) (l : PacketsState) (holds : Holds) (q : Reading) → 0 < left → HoldsBy size (Pad left) header l holds q → HoldsBy size (after_pad left) header l holds (q ++ (PAD, 0) ∷ [])
pad_held size left header l holds q pos (zeros, n, h) =
    let more = padded_more header holds l.room zeros q h in
    by_test (ltb 1 left) (λ x. HoldsBy size x header l holds (q ++ (PAD, 0) ∷ [])) (Pad (left - 1)) Whole
    (λ t. let b = below_true 1 left t in (suc zeros, omega (arith, n, b), more))
    (λ t. let b = below_false 1 left t in let e : suc zeros ≡ pad_bits size = omega (arith, n, b, pos) in subst (λ m. Filled header holds l.room 0 m (q ++ (PAD, 0) ∷ [])) e more)

-- ---- All of PAD.

-- this many zeros more of PAD
zeros_all : (header : List ℕ) (holds : Holds) (room zeros left : ℕ) (q : Reading) → Filled header holds room 0 zeros q → Filled header holds room 0 (zeros + left) (q ++ kept PAD (replicate left false))
zeros_all header holds room zeros zero q f =
    let e : zeros + 0 ≡ zeros = omega arith in
    rw e (rw (append-nil q) f)
zeros_all header holds room zeros (suc left) q f =
    let one : Reading = (PAD, 0) ∷ [] in
    let rest = kept PAD (replicate left false) in
    let e : zeros + suc left ≡ suc zeros + left = omega arith in
    rw e (subst (λ (t : Reading). Filled header holds room 0 (suc zeros + left) t) (append_assoc q one rest) (zeros_all header holds room (suc zeros) left (q ++ one) (padded_more header holds room zeros q f)))

none_after : (xs q : Reading) → xs ++ q ≡ xs → q ≡ []
none_after [] q e = e
none_after (x ∷ xs) q e = none_after xs q (let k : xs ++ q ≡ xs = cc in k)

no_numbers : (xs : List ℕ) → length xs ≡ 0 → xs ≡ []
no_numbers [] e = refl
no_numbers (x ∷ xs) e = absurd cc

-- ---- Room for FILL.

pub fill_room : (phase : Phase) (left n : ℕ) (holds : Holds) → phase ≡ Fill left → n ≤ left → FillFits phase holds → (vs : List PacketValue) × ((f : List ℕ) × ((k : List Bool) × (holds vs f k × (length k + n ≤ 8191))))
fill_room phase left n holds e le h =
    let (vs, k, held, small) = subst (λ (x : Phase). FillFits x holds) e h in
    (vs, ([], (k, (held, omega (arith, small, le)))))

pub fits_after : (size : Size) (phase phase' : Phase) (left : ℕ) (holds holds' : Holds) (t : List Bool) → phase ≡ Fill left → phase' ≡ after_fill size left (length t) → length t ≤ left
    → ((vs : List PacketValue) (k : List Bool) → holds vs [] k → holds' vs [] (k ++ t)) → FillFits phase holds → FillFits phase' holds'
fits_after size phase phase' left holds holds' t e e' le more h =
    subst (λ (x : Phase). FillFits x holds') (sym e') (fill_fits size left holds holds' t le more (subst (λ (x : Phase). FillFits x holds) e h))

-- ---- From one to the next.

abbrev pub state : {S : Type 0} (size : Size) (phase : Phase) (header : List ℕ) (left : PacketsState) → S → IsTrue (stands_at phase (length header) left) → TelegramState S
state size phase header left store stands = record { size = size; phase = phase; header = header; left = left; store = store; stands = stands }

pub phase_is : {S : Type 0} {s t : TelegramState S} {phase : Phase} → s ≡ t → s.phase ≡ phase → t.phase ≡ phase
phase_is e is = rw e at is

-- what is of the same parts is the same
pub same_state : {S : Type 0} (size : Size) (header : List ℕ) (phase phase' : Phase) (l l' : PacketsState) (store store' : S) (h : IsTrue (stands_at phase (length header) l)) (h' : IsTrue (stands_at phase' (length header) l')) → phase ≡ phase' → l ≡ l' → store ≡ store' → state size phase header l store h ≡ state size phase' header l' store' h'
same_state {S} size header phase phase' l l' store store' h h' e f k =
    let P : Phase × PacketsState × S → Type 0 = λ a. IsTrue (stands_at a.0 (length header) a.1) in
    same_made P P (λ a. Bool-set _ _) (λ a. Bool-set _ _) (λ a x y. state size a.0 header a.1 a.2 x) (phase, l, store) (phase', l', store') (λ i. (e i, f i, k i)) h h h' h'

module _ {S : Type 0} (holds : S → Holds) (s : TelegramState S) where
  pub header_follows : (phase : Phase) (header : List ℕ) (stands : IsTrue (stands_at phase (length header) s.left)) (at : ℕ) (x : Var) (n : ℕ) → s.phase ≡ Header at → phase ≡ after_header at → header ≡ s.header ++ n ∷ [] → next_var s ≡ Some x → Starts (Left s) x 0 n
      → Follows holds s ((x, n) ∷ []) (state s.size phase header s.left s.store stands)
  header_follows phase header stands at x n e e' more next goes =
      let parts = header_parts s at e in
      let next' : next_at (Header at) s.left ≡ Some x = rw e at next in
      record {
        same = refl;
        residual = rw (e, e') (header_beyond s.size at s.left x n parts.0 next' (rw e at goes));
        held = λ q k. rw (e', more) (header_held s.size at s.header s.left (holds s.store) x n q parts.1 next' (rw e at k));
      }

  -- all of the header
  pub whole_header : (header : List ℕ) (stands : IsTrue (stands_at Packets (length header) s.left)) (xs : List Bool) (at end : ℕ) → s.phase ≡ Header 0 → FrontAt header_row xs at header end → Follows holds s (labelled header_row header) (state s.size Packets header s.left s.store stands)
  whole_header header stands xs at end e f =
      let p = labelled header_row header in
      let none : s.header ≡ [] = no_numbers s.header (header_parts s 0 e).1 in
      let from : (q : Reading) → HoldsBy s.size (Header 0) s.header s.left (holds s.store) q → HoldsBy s.size Packets header s.left (holds s.store) (q ++ p) = (λ q (is, nothing).
      (let whole : q ++ p ≡ p ++ [] = ap (λ (t : Reading). t ++ p) (is ∙ ap (λ (t : List ℕ). labelled header_row t) none) ∙ sym (append-nil p) in
      ([], whole, nothing))) in
      record {
        same = refl;
        residual = rw e (front_all (PacketsAfter s.size s.left) header_row header f.reads);
        held = λ q k. from q (rw e at k);
      }

  pub packets_follow : (phase : Phase) (l : PacketsState) (store : S) (stands : IsTrue (stands_at phase (length s.header) l)) (p : Reading) → s.phase ≡ Packets → phase ≡ after_packets s.size l → Goes (left_of l.carrier l.room l.stage) → Steps s.left l (holds s.store) (holds store) p
      → Follows holds s p (state s.size phase s.header l store stands)
  packets_follow phase l store stands p e e' some (moved, held) =
      let parts = packets_parts s e in
      record {
        same = refl;
        residual = rw (e, e') (packets_after s.size s.left l p moved some);
        held = λ q k. rw e' (packets_held s.size s.header s.left l (holds s.store) (holds store) p parts.0 (moved.same ∙ parts.1) held q (rw e at k));
      }

  pub fill_follows : (phase : Phase) (store : S) (stands : IsTrue (stands_at phase (length s.header) s.left)) (left : ℕ) (t : List Bool) → s.phase ≡ Fill left → phase ≡ after_fill s.size left (length t) → length t ≤ left → ((vs : List PacketValue) (k : List Bool) → holds s.store vs [] k → holds store vs [] (k ++ t))
      → Follows holds s (kept FILL t) (state s.size phase s.header s.left store stands)
  fill_follows phase store stands left t e e' le more = record {
    same = refl;
    residual = rw (e, e') (fill_after s.size left s.left t le);
    held = λ q k. rw e' (fill_held s.size left s.header s.left (holds s.store) (holds store) t le more q (rw e at k));
  }

  pub pad_follows : (phase : Phase) (stands : IsTrue (stands_at phase (length s.header) s.left)) (left : ℕ) → s.phase ≡ Pad left → phase ≡ after_pad left → Follows holds s ((PAD, 0) ∷ []) (state s.size phase s.header s.left s.store stands)
  pad_follows phase stands left e e' = record {
    same = refl;
    residual = rw (e, e') (pad_beyond s.size left s.left (pad_parts s left e));
    held = λ q k. rw e' (pad_held s.size left s.header s.left (holds s.store) q (pad_parts s left e) (rw e at k));
  }

  -- all of PAD
  pub whole_pad : (stands : IsTrue (stands_at Whole (length s.header) s.left)) (left : ℕ) → s.phase ≡ Pad left → Follows holds s (kept PAD (replicate left false)) (state s.size Whole s.header s.left s.store stands)
  whole_pad stands left e =
      let p = kept PAD (replicate left false) in
      let all : Residual (PadLeft left) p (left_at s.size Whole s.left) = record {
        to = λ q h. none_after p q h;
        from = λ q h. rw h (append-nil p);
      } in
      let from : (q : Reading) → HoldsBy s.size (Pad left) s.header s.left (holds s.store) q → HoldsBy s.size Whole s.header s.left (holds s.store) (q ++ p) = (λ q (zeros, n, f). subst (λ m. Filled s.header (holds s.store) s.left.room 0 m (q ++ p)) n (zeros_all s.header (holds s.store) s.left.room zeros left q f)) in
      record {
        same = refl;
        residual = rw e all;
        held = λ q k. from q (rw e at k);
      }
