-- What is kept of a message after each of its variables.
use Rattle.std.proofs.Common.{◌≡◌, ℕ, suc, ◌+◌, ◌-◌, ◌*◌, ◌%◌, ◌^◌, ◌<◌, ◌≤◌, Bool, List, [], ◌∷◌, ◌++◌, length, drop, Some, None, refl, sym, ap, subst, ◌∙◌, arith, ltb, append_assoc, append-nil, length-append, inl, inr}
use Rattle.std.specs.Prelude.{All, IsTrue}
use mathlib.Core.Bool.{Bool-set}
use Rattle.std.specs.Int.RustNames.{bit_or}
use Rattle.std.proofs.lemmas.List.{nil_from_length}
use Rattle.std.proofs.lemmas.Nat.{or_shifted}
use Rattle.std.proofs.Math.ListN.{drop_of_length-le}
use Rattle.std.proofs.Math.Pow.{pow_mono}
use Rattle.etcs_bits.specs.Bits.{num}
use Rattle.etcs_bits.proofs.Numbers.{length-num}
use Rattle.etcs_vars.specs.declared.var.Var.{Var}
use Rattle.etcs_vars.specs.declared.var.Var.TheVariants.{NID_MESSAGE, L_MESSAGE, PADDING, OTHER_DATA}
use Rattle.etcs_vars.specs.Vars.{width}
use Rattle.etcs_vars.specs.Reading.{Reading, spelled, kept}
use Rattle.etcs_vars.proofs.Stepping.{parts_fit, next_number}
use Rattle.etcs_tables.specs.declared.row.Way.{Way}
use Rattle.etcs_rows.specs.declared.frames.Carrier.{Carrier}
use Rattle.etcs_rows.specs.declared.frames.Carrier.TheVariants.{Message}
use Rattle.etcs_vars.proofs.Sent.{length-sent}
use Rattle.etcs_rows.specs.Frames.{way_of}
use Rattle.etcs_packets.specs.PacketValues.{PacketValue}
use Rattle.etcs_packets.specs.PacketReadings.{readings_to}
use Rattle.etcs_sequence.specs.Contents.{Carries, PacketsIn, closing}
use Rattle.etcs_sequence.specs.laws.RunSteps.{both_length}
use Rattle.etcs_reader.specs.Rests.{Starts, Goes}
use Rattle.etcs_vars.proofs.Languages.{Same}
use Rattle.etcs_sequence.specs.AtOnce.{Holds}
use Rattle.etcs_sequence.proofs.Leaps.{Steps, same_made}
use Rattle.etcs_reader.specs.Fields.{first_of}
use Rattle.etcs_sequence.specs.declared.state.PacketsState.{PacketsState}
use Rattle.etcs_sequence.specs.declared.stage.Stage.TheVariants as stage
use Rattle.etcs_sequence.specs.laws.BitLaws.{bits_append, bits_spelled}
use Rattle.etcs_sequence.specs.Labels.{labelled, widths}
use Rattle.etcs_sequence.proofs.LabelLaws.{labelled_none, labelled_more}
use Rattle.etcs_sequence.specs.Lefts.{left_of, ahead, is_closed, HoldsAt, Moved}
use Rattle.etcs_sequence.proofs.StageLaws.{closed_stage}
use Rattle.etcs_messages.specs.declared.phase.Phase.{Phase}
use Rattle.etcs_messages.specs.declared.phase.Phase.TheVariants as phase
use Rattle.etcs_messages.specs.Lefts.{front_row, front_vars, some_row, front_bits, headed, LengthLeft, next_at, is_message, stands_at, after_packets, beyond_front, after_padding, after_data, DataFits, PacketsHeld, PaddingHeld, DataHeld, HoldsBy, MessageState, Left, next_var, Follows}
use Rattle.etcs_messages.proofs.Fronts.{drop_bits}
use Rattle.etcs_messages.proofs.RestSteps.{by_test, below_false, number_after, typed_after, kept_after, typed_bounds, kept_bounds, front_after, packets_after, padding_after, data_after}
use Rattle.etcs_messages.proofs.RestStands.{begin_parts, front_parts, message_inner, packets_message}

-- this many bits more
more_bits : (q : Reading) (x : Var) (n : ℕ) → length (spelled (q ++ (x, n) ∷ [])) ≡ length (spelled q) + width x
more_bits q x n = (let a = both_length q ((x, n) ∷ []) in let b = length-sent x n [] in omega (arith, a, b))

kept_bits : (q : Reading) (x : Var) (t : List Bool) → width x ≡ 1 → length (spelled (q ++ kept x t)) ≡ length (spelled q) + length t
kept_bits q x t w = (let a = both_length q (kept x t) in let b = ap (λ (s : List Bool). length s) (bits_spelled x t w) in omega (arith, a, b))

-- ---- PADDING.

padding_first : (way : Way) (nid left : ℕ) (front : List ℕ) (l : PacketsState) (padding : ℕ) (holds : Holds) (q : Reading) → PaddingHeld way nid front holds padding left q → HoldsBy way nid (after_padding left) front l padding holds q
padding_first way nid left front l padding holds q h =
    by_test (ltb 0 left) (λ x. HoldsBy way nid x front l padding holds q) (phase.Padding left) phase.Whole
    (λ _. h)
    (λ t. let e : left ≡ 0 = (let b = below_false 0 left t in omega arith) in inl (subst (λ n. PaddingHeld way nid front holds padding n q) e h))

-- a shift that loses no bit
shifted : (padding number k c : ℕ) → k + c ≤ 7 → padding < 2 ^ k → number < 2 ^ c → bit_or (padding * 2 ^ c % 256) number ≡ padding * 2 ^ c + number
shifted padding number k c short small fits =
    let all : padding * 2 ^ c + number < 2 ^ (k + c) = parts_fit k c padding number small fits in
    let top : 2 ^ (k + c) ≤ 2 ^ 7 = pow_mono short in
    let whole : padding * 2 ^ c % 256 ≡ padding * 2 ^ c = (let n = padding * 2 ^ c in let below : n < 256 = omega (arith, all, top) in omega (arith, below)) in
    rw whole (or_shifted padding c number fits)

padding_more : (way : Way) (nid left c number padding : ℕ) (front : List ℕ) (holds : Holds) (q : Reading) → c ≤ left → number < 2 ^ c → PaddingHeld way nid front holds padding left q → PaddingHeld way nid front holds (bit_or (padding * 2 ^ c % 256) number) (left - c) (q ++ kept PADDING (num c number))
padding_more way nid left c number padding front holds q le fits f =
    let k = length f.bits in
    let short = f.short in
    let is : bit_or (padding * 2 ^ c % 256) number ≡ padding * 2 ^ c + number = shifted padding number k c (omega (arith, short, le)) f.small fits in
    let t = num c number in
    let wide : length t ≡ c = length-num c number in
    let long : length (f.bits ++ t) ≡ k + c = length-append f.bits t ∙ ap (λ n. k + n) wide in
    let v = labelled f.vars front in
    let p = readings_to way f.packets in
    rw is record {
      len = f.len;
      vars = f.vars;
      packets = f.packets;
      bits = f.bits ++ t;
      typed = f.typed;
      count = f.count;
      held = f.held;
      carried = f.carried;
      short = omega (arith, long, short, le);
      small = rw long (parts_fit k c padding number f.small fits);
      padding_is = rw long (ap (λ (s : List Bool). s ++ t) f.padding_is ∙ sym (next_number k c padding number fits));
      most = f.most;
      reading_is = ap (λ (x : Reading). x ++ kept PADDING t) f.reading_is ∙ ap (headed nid f.len) (append_assoc v (p ++ kept PADDING f.bits) (kept PADDING t) ∙ ap (λ (x : Reading). v ++ x) (append_assoc p (kept PADDING f.bits) (kept PADDING t) ∙ ap (λ (x : Reading). p ++ x) (sym (bits_append PADDING f.bits t))));
      room_is = (let a = kept_bits q PADDING t refl in let b = f.room_is in omega (arith, a, b, wide, le));
    }

-- ---- The packets.

-- packets that are closed, with none of PADDING
closed_held : (way : Way) (nid : ℕ) (front : List ℕ) (c : Carrier) (room padding : ℕ) (holds : Holds) (len : ℕ) (vars : List Var) (here q : Reading) → c ≡ (Message way) → room ≤ 7 → padding ≡ 0 → len < 2 ^ 10 → front_row way nid ≡ Some vars → length front ≡ length vars → q ≡ headed nid len (labelled vars front ++ here)
    → length (spelled q) + room ≡ 8 * len → HoldsAt c stage.Closed holds here → PaddingHeld way nid front holds padding room q
unfolding num
closed_held way nid front c room padding holds len vars here q same short none most typed count is bits (vs, f, k, t, held, carried, (no_numbers, no_bits, all), reading) =
    let here-is : here ≡ readings_to way vs ++ kept PADDING [] = reading ∙ ap (λ (x : Reading). readings_to (way_of c) vs ++ x) (all ∙ ap closing same) ∙ ap (λ (d : Carrier). readings_to (way_of d) vs ++ []) same in
    record {
      len = len;
      vars = vars;
      packets = vs;
      bits = [];
      typed = typed;
      count = count;
      held = subst (λ (x : List ℕ). holds vs x []) no_numbers (subst (λ (x : List Bool). holds vs f x) no_bits held);
      carried = subst (λ (x : Carrier). All (Carries x) vs) same carried;
      short = omega (arith, short);
      small = omega (arith, none);
      padding_is = refl;
      most = most;
      reading_is = is ∙ ap (λ (x : Reading). headed nid len (labelled vars front ++ x)) here-is;
      room_is = bits;
    }

-- all of the front, and packets
packets_first : (way : Way) (nid : ℕ) (front : List ℕ) (l : PacketsState) (padding : ℕ) (holds : Holds) (q : Reading) → IsTrue (is_message way l) → padding ≡ 0 → PacketsHeld way nid front l holds q → HoldsBy way nid (after_packets l) front l padding holds q
packets_first way nid front l padding holds q m none h =
    let parts = message_inner way l m in
    by_test (is_closed l.stage) (λ x. HoldsBy way nid x front l padding holds q) (after_padding l.room) phase.Packets
    (λ t. let e = closed_stage l.stage t in
    let room : length (spelled q) + l.room ≡ 8 * h.len = rw e at h.room_is in
    let held : HoldsAt l.carrier stage.Closed holds h.here = rw e at h.held in
    let short = parts.1 t in
    padding_first way nid l.room front l padding holds q (closed_held way nid front l.carrier l.room padding holds h.len h.vars h.here q parts.0 (omega (arith, short)) none h.most h.typed h.count h.reading_is room held))
    (λ _. (none, h))

packets_held : (way : Way) (nid : ℕ) (front : List ℕ) (l l' : PacketsState) (padding : ℕ) (holds holds' : Holds) (p : Reading) → IsTrue (is_message way l') → Moved l.carrier l.room l.stage p l'.carrier l'.room l'.stage
    → ((q : Reading) → HoldsAt l.carrier l.stage holds q → HoldsAt l'.carrier l'.stage holds' (q ++ p)) → (q : Reading) → HoldsBy way nid phase.Packets front l padding holds q → HoldsBy way nid (after_packets l') front l' padding holds' (q ++ p)
packets_held way nid front l l' padding holds holds' p m moved more q (none, h) =
    packets_first way nid front l' padding holds' (q ++ p) m none record {
      len = h.len;
      vars = h.vars;
      here = h.here ++ p;
      typed = h.typed;
      count = h.count;
      held = more h.here h.held;
      most = h.most;
      reading_is = ap (λ (x : Reading). x ++ p) h.reading_is ∙ ap (headed nid h.len) (append_assoc (labelled h.vars front) h.here p);
      room_is = (let a = both_length q p in let b = h.room_is in let d = moved.ahead_is in omega (arith, a, b, d));
    }

-- ---- The front.

front_held : (way : Way) (nid at : ℕ) (front : List ℕ) (l : PacketsState) (padding : ℕ) (holds : Holds) (x : Var) (n : ℕ) (q : Reading) → at < length (front_vars way nid) → length front ≡ at → IsTrue (is_message way l) → next_at way nid (phase.Front at) l ≡ Some x → HoldsBy way nid (phase.Front at) front l padding holds q
    → HoldsBy way nid (beyond_front (length (front_vars way nid)) (at + 1) l) (front ++ n ∷ []) l padding holds (q ++ (x, n) ∷ [])
front_held way nid at front l padding holds x n q below len m next (none, h) =
    let vars : front_vars way nid ≡ h.vars = ap some_row h.typed in
    let first : first_of (drop at h.vars) ≡ Some x = rw vars at next in
    let first' : first_of (drop (length front) h.vars) ≡ Some x = rw len first in
    let reading : q ++ (x, n) ∷ [] ≡ headed nid h.len (labelled h.vars (front ++ n ∷ [])) = ap (λ (t : Reading). t ++ (x, n) ∷ []) h.reading_is ∙ ap (headed nid h.len) (sym (labelled_more h.vars front x n first')) in
    let room : length (spelled (q ++ (x, n) ∷ [])) + (widths (drop (suc at) h.vars) + ahead l.carrier l.room l.stage) ≡ 8 * h.len = (let a = more_bits q x n in let b = h.room_is in let d = drop_bits h.vars at x first in omega (arith, a, b, d)) in
    let long : length (front ++ n ∷ []) ≡ suc at = length-append front (n ∷ []) ∙ omega (arith, len) in
    let next_at-is : at + 1 ≡ suc at = omega arith in
    by_test (ltb (at + 1) (length (front_vars way nid))) (λ p. HoldsBy way nid p (front ++ n ∷ []) l padding holds (q ++ (x, n) ∷ [])) (phase.Front (at + 1)) (after_packets l)
    (λ _. (none, record { len = h.len; vars = h.vars; typed = h.typed; none = h.none; most = h.most; reading_is = reading; room_is = rw next_at-is room }))
    (λ t. let over = below_false (at + 1) (length (front_vars way nid)) t in
    let size = ap (λ (vs : List Var). length vs) vars in
    let all : drop (suc at) h.vars ≡ [] = drop_of_length-le h.vars {i = suc at} (omega (arith, over, size)) in
    let no_more : widths (drop (suc at) h.vars) ≡ 0 = ap widths all in
    packets_first way nid (front ++ n ∷ []) l padding holds (q ++ (x, n) ∷ []) m none record {
      len = h.len;
      vars = h.vars;
      here = [];
      typed = h.typed;
      count = omega (arith, long, over, size, below);
      held = h.none;
      most = h.most;
      reading_is = reading ∙ ap (headed nid h.len) (sym (append-nil (labelled h.vars (front ++ n ∷ []))));
      room_is = omega (arith, room, no_more);
    })

-- ---- Bits that are kept.

data_first : (way : Way) (nid left : ℕ) (front : List ℕ) (l : PacketsState) (padding : ℕ) (holds : Holds) (q : Reading) → DataHeld way nid holds left q → HoldsBy way nid (after_data left) front l padding holds q
data_first way nid left front l padding holds q h =
    by_test (ltb 0 left) (λ x. HoldsBy way nid x front l padding holds q) (phase.Data left) phase.Whole
    (λ _. h)
    (λ t. let e : left ≡ 0 = (let b = below_false 0 left t in omega arith) in inr (subst (λ n. DataHeld way nid holds n q) e h))

data_more : (way : Way) (nid left : ℕ) (holds holds' : Holds) (t : List Bool) (q : Reading) → length t ≤ left → ((vs : List PacketValue) (k : List Bool) → holds vs [] k → holds' vs [] (k ++ t)) → DataHeld way nid holds left q → DataHeld way nid holds' (left - length t) (q ++ kept OTHER_DATA t)
data_more way nid left holds holds' t q le more f = record {
  len = f.len;
  bits = f.bits ++ t;
  untyped = f.untyped;
  least = f.least;
  most = f.most;
  held = more [] f.bits f.held;
  reading_is = ap (λ (x : Reading). x ++ kept OTHER_DATA t) f.reading_is ∙ ap (headed nid f.len) (sym (bits_append OTHER_DATA f.bits t));
  room_is = (let n = f.room_is in omega (arith, n, le, length-append f.bits t));
}

-- ---- From one to the next.

-- with NID_MESSAGE and L_MESSAGE
heads : (nid len : ℕ) (q : Reading) → q ≡ (NID_MESSAGE, nid) ∷ [] → length (spelled (q ++ (L_MESSAGE, len) ∷ [])) ≡ 18
heads nid len q is =
    let a = more_bits q L_MESSAGE len in
    let b = ap (λ (x : Reading). length (spelled x)) is in
    let d = length-sent NID_MESSAGE nid [] in
    omega (arith, a, b, d)

abbrev pub state : {S : Type 0} (way : Way) (nid : ℕ) (here : Phase) (front : List ℕ) (left : PacketsState) (padding : ℕ) → S → IsTrue (stands_at way nid here (length front) left) → MessageState S
state way nid here front left padding store stands = record { way = way; nid = nid; phase = here; front = front; left = left; padding = padding; store = store; stands = stands }

pub phase_is : {S : Type 0} {s t : MessageState S} {here : Phase} → s ≡ t → s.phase ≡ here → t.phase ≡ here
phase_is e is = rw e at is

-- what is of the same parts is the same
pub same_state : {S : Type 0} (way : Way) (nid : ℕ) (front : List ℕ) (padding : ℕ) (here here' : Phase) (l l' : PacketsState) (store store' : S) (h : IsTrue (stands_at way nid here (length front) l)) (h' : IsTrue (stands_at way nid here' (length front) l')) → here ≡ here' → l ≡ l' → store ≡ store' → state way nid here front l padding store h ≡ state way nid here' front l' padding store' h'
same_state {S} way nid front padding here here' l l' store store' h h' e f k =
    let P : Phase × PacketsState × S → Type 0 = λ a. IsTrue (stands_at way nid a.0 (length front) a.1) in
    same_made P P (λ a. Bool-set _ _) (λ a. Bool-set _ _) (λ a x y. state way nid a.0 front a.1 padding a.2 x) (here, l, store) (here', l', store') (λ i. (e i, f i, k i)) h h h' h'

module _ {S : Type 0} (holds : S → Holds) (s : MessageState S) where
  pub number_follows : (n : ℕ) (stands : IsTrue (stands_at s.way n phase.Length (length s.front) s.left)) → s.phase ≡ phase.Number → Starts (Left s) NID_MESSAGE 0 n → Follows holds s ((NID_MESSAGE, n) ∷ []) (state s.way n phase.Length s.front s.left s.padding s.store stands)
  number_follows n stands e goes =
      let from : (q : Reading) → HoldsBy s.way s.nid phase.Number s.front s.left s.padding (holds s.store) q → HoldsBy s.way n phase.Length s.front s.left s.padding (holds s.store) (q ++ (NID_MESSAGE, n) ∷ []) = (λ q (none, k, is). (none, k, ap (λ (x : Reading). x ++ (NID_MESSAGE, n) ∷ []) is)) in
      record {
        same = refl;
        residual = rw e (number_after s.way n (rw e at goes));
        held = λ q k. from q (rw e at k);
      }

  pub typed_follows : (l : PacketsState) (store : S) (stands : IsTrue (stands_at s.way s.nid (phase.Front 0) (length s.front) l)) (len : ℕ) (vs : List Var) → s.phase ≡ phase.Length → front_row s.way s.nid ≡ Some vs → Starts (Left s) L_MESSAGE 0 len
      → ahead l.carrier l.room l.stage ≡ 8 * len - front_bits vs → Same (left_of l.carrier l.room l.stage) (PacketsIn (Message s.way) (8 * len - front_bits vs)) → (holds s.store [] [] [] → HoldsAt l.carrier l.stage (holds store) [])
      → Follows holds s ((L_MESSAGE, len) ∷ []) (state s.way s.nid (phase.Front 0) s.front l s.padding store stands)
  typed_follows l store stands len vs e found goes room left begun =
      let no_front : s.front ≡ [] = nil_from_length s.front (begin_parts s e).0 in
      let goes' : Starts (LengthLeft s.way s.nid) L_MESSAGE 0 len = rw e at goes in
      let bounds = typed_bounds s.way s.nid len vs found goes' in
      let from : (q : Reading) → HoldsBy s.way s.nid phase.Length s.front s.left s.padding (holds s.store) q → HoldsBy s.way s.nid (phase.Front 0) s.front l s.padding (holds store) (q ++ (L_MESSAGE, len) ∷ []) = (λ q (none, k, is). (
        none,
        record {
          len = len;
          vars = vs;
          typed = found;
          none = begun k;
          most = bounds.1;
          reading_is = ap (λ (x : Reading). x ++ (L_MESSAGE, len) ∷ []) is ∙ ap (headed s.nid len) (sym (ap (labelled vs) no_front ∙ labelled_none vs));
          room_is = (let a = heads s.nid len q is in let b = bounds.0 in omega (arith, a, b, room));
        },
      )) in
      record {
        same = refl;
        residual = rw e (typed_after s.way s.nid len vs s.left l found goes' room left);
        held = λ q k. from q (rw e at k);
      }

  pub kept_follows : (len left : ℕ) (stands : IsTrue (stands_at s.way s.nid (phase.Data left) (length s.front) s.left)) → s.phase ≡ phase.Length → front_row s.way s.nid ≡ None → Starts (Left s) L_MESSAGE 0 len → left ≡ 8 * len - 18
      → Follows holds s ((L_MESSAGE, len) ∷ []) (state s.way s.nid (phase.Data left) s.front s.left s.padding s.store stands)
  kept_follows len left stands e found goes left_is =
      let goes' : Starts (LengthLeft s.way s.nid) L_MESSAGE 0 len = rw e at goes in
      let bounds = kept_bounds s.way s.nid len found goes' in
      let from : (q : Reading) → HoldsBy s.way s.nid phase.Length s.front s.left s.padding (holds s.store) q → DataHeld s.way s.nid (holds s.store) left (q ++ (L_MESSAGE, len) ∷ []) = (λ q (none, k, is). record {
        len = len;
        bits = [];
        untyped = found;
        least = bounds.0;
        most = bounds.1;
        held = k;
        reading_is = ap (λ (x : Reading). x ++ (L_MESSAGE, len) ∷ []) is;
        room_is = (let b = bounds.0 in omega (arith, b, left_is));
      }) in
      record {
        same = refl;
        residual = rw (e, left_is) (kept_after s.way s.nid len found goes');
        held = λ q k. from q (rw e at k);
      }

  pub front_follows : (here : Phase) (front : List ℕ) (stands : IsTrue (stands_at s.way s.nid here (length front) s.left)) (at : ℕ) (x : Var) (n : ℕ) → s.phase ≡ phase.Front at → here ≡ beyond_front (length (front_vars s.way s.nid)) (at + 1) s.left → front ≡ s.front ++ n ∷ []
      → next_var s ≡ Some x → Starts (Left s) x 0 n → Follows holds s ((x, n) ∷ []) (state s.way s.nid here front s.left s.padding s.store stands)
  front_follows here front stands at x n e e' more next goes =
      let parts = front_parts s at e in
      let next' : next_at s.way s.nid (phase.Front at) s.left ≡ Some x = rw e at next in
      record {
        same = refl;
        residual = rw (e, e') (front_after s.way s.nid at s.left x n parts.0 next' (rw e at goes));
        held = λ q k. rw (e', more) (front_held s.way s.nid at s.front s.left s.padding (holds s.store) x n q parts.0 parts.1 parts.2 next' (rw e at k));
      }

  pub packets_follow : (here : Phase) (l : PacketsState) (store : S) (stands : IsTrue (stands_at s.way s.nid here (length s.front) l)) (p : Reading) → s.phase ≡ phase.Packets → here ≡ after_packets l → Goes (left_of l.carrier l.room l.stage) → Steps s.left l (holds s.store) (holds store) p
      → Follows holds s p (state s.way s.nid here s.front l s.padding store stands)
  packets_follow here l store stands p e e' some (moved, held) =
      let m = packets_message s l p e moved in
      record {
        same = refl;
        residual = rw (e, e') (packets_after s.way s.nid s.left l p moved some);
        held = λ q k. rw e' (packets_held s.way s.nid s.front s.left l s.padding (holds s.store) (holds store) p m moved held q (rw e at k));
      }

  pub padding_follows : (here : Phase) (stands : IsTrue (stands_at s.way s.nid here (length s.front) s.left)) (left c number : ℕ) → s.phase ≡ phase.Padding left → here ≡ after_padding (left - c) → c ≤ left → number < 2 ^ c
      → Follows holds s (kept PADDING (num c number)) (state s.way s.nid here s.front s.left (bit_or (s.padding * 2 ^ c % 256) number) s.store stands)
  padding_follows here stands left c number e e' le fits =
      let wide : length (num c number) ≡ c = length-num c number in
      let beyond = padding_after s.way s.nid left s.left (num c number) (omega (arith, wide, le)) in
      let to = bit_or (s.padding * 2 ^ c % 256) number in
      record {
        same = refl;
        residual = rw (e, e') (rw wide at beyond);
        held = λ q k. rw e' (padding_first s.way s.nid (left - c) s.front s.left to (holds s.store) (q ++ kept PADDING (num c number)) (padding_more s.way s.nid left c number s.padding s.front (holds s.store) q le fits (rw e at k)));
      }

  pub data_follows : (here : Phase) (store : S) (stands : IsTrue (stands_at s.way s.nid here (length s.front) s.left)) (left : ℕ) (t : List Bool) → s.phase ≡ phase.Data left → here ≡ after_data (left - length t) → length t ≤ left → ((vs : List PacketValue) (k : List Bool) → holds s.store vs [] k → holds store vs [] (k ++ t))
      → Follows holds s (kept OTHER_DATA t) (state s.way s.nid here s.front s.left s.padding store stands)
  data_follows here store stands left t e e' le more = record {
    same = refl;
    residual = rw (e, e') (data_after s.way s.nid left s.left t le);
    held = λ q k. rw e' (data_first s.way s.nid (left - length t) s.front s.left s.padding (holds store) (q ++ kept OTHER_DATA t) (data_more s.way s.nid left (holds s.store) (holds store) t q le more (rw e at k)));
  }

-- ---- Room for bits that are kept.

pub data_room : (here : Phase) (left n : ℕ) (holds : Holds) → here ≡ phase.Data left → n ≤ left → DataFits here holds → (vs : List PacketValue) × ((f : List ℕ) × ((k : List Bool) × (holds vs f k × (length k + n ≤ 8191))))
data_room here left n holds e le h =
    let (vs, k, held, small) = subst (λ (x : Phase). DataFits x holds) e h in
    (vs, ([], (k, (held, omega (arith, small, le)))))

data_fits : (left : ℕ) (holds holds' : Holds) (t : List Bool) → length t ≤ left → ((vs : List PacketValue) (k : List Bool) → holds vs [] k → holds' vs [] (k ++ t)) → DataFits (phase.Data left) holds → DataFits (after_data (left - length t)) holds'
data_fits left holds holds' t le more (vs, k, h, small) =
    by_test (ltb 0 (left - length t)) (λ x. DataFits x holds') (phase.Data (left - length t)) phase.Whole
    (λ _. (vs, k ++ t, more vs k h, omega (arith, length-append k t, small, le)))
    (λ _. tt)

pub fits_after : (here here' : Phase) (left : ℕ) (holds holds' : Holds) (t : List Bool) → here ≡ phase.Data left → here' ≡ after_data (left - length t) → length t ≤ left
    → ((vs : List PacketValue) (k : List Bool) → holds vs [] k → holds' vs [] (k ++ t)) → DataFits here holds → DataFits here' holds'
fits_after here here' left holds holds' t e e' le more h =
    subst (λ (x : Phase). DataFits x holds') (sym e') (data_fits left holds holds' t le more (subst (λ (x : Phase). DataFits x holds) e h))

pub begun_fits : {S : Type 0} (s : MessageState S) (holds : Holds) (len : ℕ) → s.phase ≡ phase.Length → front_row s.way s.nid ≡ None → Starts (Left s) L_MESSAGE 0 len → DataFits s.phase holds → DataFits (phase.Data (8 * len - 18)) holds
begun_fits s holds len e found goes h =
    let bounds = kept_bounds s.way s.nid len found (rw e at goes) in
    ([], [], subst (λ (x : Phase). DataFits x holds) e h, (let b = bounds.1 in omega (arith, b)))
