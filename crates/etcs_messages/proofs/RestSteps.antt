-- What is left of a message after each of its variables.
use Rattle.std.proofs.Common.{◌≡◌, ℕ, suc, ◌+◌, ◌-◌, ◌*◌, ◌^◌, ◌<◌, ◌≤◌, Bool, true, false, List, [], ◌∷◌, length, drop, Some, None, refl, sym, subst, arith, ltb}
use Rattle.std.specs.Prelude.{IsTrue, ◌↔◌, Option, if◌then◌else◌}
use Rattle.std.proofs.lemmas.Bool.Decides.{nat_tests}
use Rattle.std.proofs.Math.ListN.{drop_of_length-le}
use Rattle.etcs_vars.specs.declared.var.Var.{Var}
use Rattle.etcs_vars.specs.declared.var.Var.TheVariants.{NID_MESSAGE, L_MESSAGE, PADDING, OTHER_DATA}
use Rattle.etcs_vars.specs.Vars.{width, ranges, begins}
use Rattle.etcs_vars.specs.Reading.{Reading, Then, spelled, kept, Viable}
use Rattle.etcs_vars.specs.Walking.{Residual}
use Rattle.etcs_vars.proofs.Languages.{Same, same_self, same_along, Then-same}
use Rattle.etcs_tables.specs.declared.row.Way.{Way}
use Rattle.etcs_rows.specs.declared.frames.Carrier.TheVariants.{Message}
use Rattle.etcs_sequence.specs.Contents.{PacketsIn, KeptIn}
use Rattle.etcs_sequence.proofs.Turns.{residual_same}
use Rattle.etcs_reader.specs.Rests.{Starts, Goes}
use Rattle.etcs_reader.specs.Fields.{ReadsFields}
use Rattle.etcs_sequence.specs.declared.state.PacketsState.{PacketsState}
use Rattle.etcs_sequence.specs.declared.stage.Stage.TheVariants as stage
use Rattle.etcs_sequence.specs.laws.BitLaws.{bits_after, some_bits}
use Rattle.etcs_sequence.proofs.BitLaws.{no_bits}
use Rattle.etcs_sequence.specs.ChainLaws.{Chain}
use Rattle.etcs_sequence.proofs.ChainLaws.{chain_none}
use Rattle.etcs_sequence.specs.Lefts.{next_of, left_of, ahead, is_closed, Moved}
use Rattle.etcs_sequence.specs.laws.OpenLaws.{opens_beyond, opens_number}
use Rattle.etcs_sequence.proofs.FrontLaws as fronts
use Rattle.etcs_sequence.proofs.FilledLaws.{filled_after, filled_starts, filled_viable, filled_goes}
use Rattle.etcs_sequence.proofs.StageLaws.{closed_stage}
use Rattle.etcs_messages.specs.declared.phase.Phase.{Phase}
use Rattle.etcs_messages.specs.declared.phase.Phase.TheVariants as phase
use Rattle.etcs_messages.specs.Lefts.{front_row, front_vars, front_bits, PaddingLeft, PaddedBy, PacketsAfter, PacketsFrom, AfterMessageLength, LengthLeft, NumberLeft, left_at, next_at, after_packets, beyond_front, after_padding, after_data}
use Rattle.etcs_messages.specs.laws.RestLaws.{AfterNumber, number_opens, length_opens}

pub by_test : (b : Bool) (P : Phase → Type 0) (x y : Phase) → (b ≡ true → P x) → (b ≡ false → P y) → P (if b then x else y)
by_test true P x y f g = f refl
by_test false P x y f g = g refl

pub below_false : (a b : ℕ) → ltb a b ≡ false → b ≤ a
below_false a b h = grind (arith, nat_tests)

-- ---- NID_MESSAGE.

pub number_after : (way : Way) (nid : ℕ) → Starts (NumberLeft way) NID_MESSAGE 0 nid → Residual (NumberLeft way) ((NID_MESSAGE, nid) ∷ []) (LengthLeft way nid)
number_after way nid s =
    let (r, (small, rest)) : Goes (AfterNumber way nid) = opens_number (NumberLeft way) NID_MESSAGE (AfterNumber way) (number_opens way) nid s in
    residual_same (NumberLeft way) ((NID_MESSAGE, nid) ∷ []) (AfterNumber way nid) (LengthLeft way nid) (opens_beyond (NumberLeft way) NID_MESSAGE (AfterNumber way) (number_opens way) nid) (λ q. (λ h. h.1, λ h. (small, h)))

-- ---- L_MESSAGE.

-- some message of this length continues
pub length_goes : (way : Way) (nid len : ℕ) → Starts (LengthLeft way nid) L_MESSAGE 0 len → Goes (AfterMessageLength way (front_row way nid) len)
length_goes way nid len s = opens_number (LengthLeft way nid) L_MESSAGE (AfterMessageLength way (front_row way nid)) (length_opens way nid) len s

length_beyond : (way : Way) (nid len : ℕ) (found : Option (List Var)) → front_row way nid ≡ found → Residual (LengthLeft way nid) ((L_MESSAGE, len) ∷ []) (AfterMessageLength way found len)
length_beyond way nid len found e =
    subst (λ (o : Option (List Var)). Residual (LengthLeft way nid) ((L_MESSAGE, len) ∷ []) (AfterMessageLength way o len)) e (opens_beyond (LengthLeft way nid) L_MESSAGE (AfterMessageLength way (front_row way nid)) (length_opens way nid) len)

-- packets and PADDING in the same room
packets_begun : (way : Way) (front len : ℕ) (l : PacketsState) → ahead l.carrier l.room l.stage ≡ 8 * len - front → Same (left_of l.carrier l.room l.stage) (PacketsIn (Message way) (8 * len - front)) → Same (PacketsFrom way front len) (PacketsAfter l)
packets_begun way front len l room same r = (
  λ (a, b, e, h, k). (a, b, e, (same a).1 h, subst (λ n. PaddingLeft (n - length (spelled a)) b) (sym room) k),
  λ (a, b, e, h, k). (a, b, e, (same a).0 h, subst (λ n. PaddingLeft (n - length (spelled a)) b) room k),
)

pub typed_after : (way : Way) (nid len : ℕ) (vs : List Var) (l l' : PacketsState) → front_row way nid ≡ Some vs → Starts (LengthLeft way nid) L_MESSAGE 0 len → ahead l'.carrier l'.room l'.stage ≡ 8 * len - front_bits vs → Same (left_of l'.carrier l'.room l'.stage) (PacketsIn (Message way) (8 * len - front_bits vs))
    → Residual (left_at way nid phase.Length l) ((L_MESSAGE, len) ∷ []) (left_at way nid (phase.Front 0) l')
typed_after way nid len vs l l' found s room same =
    let (r, (fits, most, rest)) : Goes (AfterMessageLength way (Some vs) len) = subst (λ (o : Option (List Var)). Goes (AfterMessageLength way o len)) found (length_goes way nid len s) in
    let packets = packets_begun way (front_bits vs) len l' room same in
    let parts : Same (Then (ReadsFields vs) (PacketsFrom way (front_bits vs) len)) (Then (ReadsFields vs) (PacketsAfter l')) = Then-same (ReadsFields vs) (PacketsFrom way (front_bits vs) len) (ReadsFields vs) (PacketsAfter l') (same_self (ReadsFields vs)) packets in
    let all : Same (AfterMessageLength way (Some vs) len) (left_at way nid (phase.Front 0) l') = rw found (λ r. (λ h. (parts r).0 h.2, λ h. (fits, most, (parts r).1 h))) in
    residual_same (LengthLeft way nid) ((L_MESSAGE, len) ∷ []) (AfterMessageLength way (Some vs) len) (left_at way nid (phase.Front 0) l') (length_beyond way nid len (Some vs) found) all

-- the bounds of a length
pub typed_bounds : (way : Way) (nid len : ℕ) (vs : List Var) → front_row way nid ≡ Some vs → Starts (LengthLeft way nid) L_MESSAGE 0 len → (front_bits vs ≤ 8 * len) × (len < 2 ^ 10)
typed_bounds way nid len vs found s = let goes : Goes (AfterMessageLength way (Some vs) len) = subst (λ (o : Option (List Var)). Goes (AfterMessageLength way o len)) found (length_goes way nid len s) in let (r, (least, most, rest)) = goes in (least, most)

pub kept_bounds : (way : Way) (nid len : ℕ) → front_row way nid ≡ None → Starts (LengthLeft way nid) L_MESSAGE 0 len → (3 ≤ len) × (len < 2 ^ 10)
kept_bounds way nid len found s = let goes : Goes (AfterMessageLength way None len) = subst (λ (o : Option (List Var)). Goes (AfterMessageLength way o len)) found (length_goes way nid len s) in let (r, (least, most, rest)) = goes in (least, most)

pub kept_after : (way : Way) (nid len : ℕ) → front_row way nid ≡ None → Starts (LengthLeft way nid) L_MESSAGE 0 len → Residual (LengthLeft way nid) ((L_MESSAGE, len) ∷ []) (KeptIn (8 * len - 18))
kept_after way nid len found s =
    let (least, most) = kept_bounds way nid len found s in
    residual_same (LengthLeft way nid) ((L_MESSAGE, len) ∷ []) (AfterMessageLength way None len) (KeptIn (8 * len - 18)) (length_beyond way nid len None found) (λ r. (λ h. h.2, λ h. (least, most, h)))

-- ---- Padding, and bits that are kept.

pub after_bits : (way : Way) (nid left : ℕ) (l : PacketsState) → Same (PaddingLeft left) (left_at way nid (after_padding left) l)
after_bits way nid left l =
    by_test (ltb 0 left) (λ x. Same (PaddingLeft left) (left_at way nid x l)) (phase.Padding left) phase.Whole
    (λ _. same_self (PaddingLeft left))
    (λ t. let e : left ≡ 0 = (let b = below_false 0 left t in omega arith) in rw e (no_bits PADDING))

after_kept : (way : Way) (nid left : ℕ) (l : PacketsState) → Same (KeptIn left) (left_at way nid (after_data left) l)
after_kept way nid left l =
    by_test (ltb 0 left) (λ x. Same (KeptIn left) (left_at way nid x l)) (phase.Data left) phase.Whole
    (λ _. same_self (KeptIn left))
    (λ t. let e : left ≡ 0 = (let b = below_false 0 left t in omega arith) in rw e (no_bits OTHER_DATA))

pub padding_after : (way : Way) (nid left : ℕ) (l : PacketsState) (t : List Bool) → length t ≤ left → Residual (left_at way nid (phase.Padding left) l) (kept PADDING t) (left_at way nid (after_padding (left - length t)) l)
padding_after way nid left l t le = residual_same (PaddingLeft left) (kept PADDING t) (PaddingLeft (left - length t)) (left_at way nid (after_padding (left - length t)) l) (bits_after PADDING refl left t le) (after_bits way nid (left - length t) l)

pub data_after : (way : Way) (nid left : ℕ) (l : PacketsState) (t : List Bool) → length t ≤ left → Residual (left_at way nid (phase.Data left) l) (kept OTHER_DATA t) (left_at way nid (after_data (left - length t)) l)
data_after way nid left l t le = residual_same (KeptIn left) (kept OTHER_DATA t) (KeptIn (left - length t)) (left_at way nid (after_data (left - length t)) l) (bits_after OTHER_DATA refl left t le) (after_kept way nid (left - length t) l)

pub padding_goes : (way : Way) (nid left : ℕ) (l : PacketsState) → Goes (left_at way nid (after_padding left) l)
padding_goes way nid left l = let s = some_bits PADDING refl left in (s.0, (after_bits way nid left l s.0).0 s.1)

pub data_goes : (way : Way) (nid left : ℕ) (l : PacketsState) → Goes (left_at way nid (after_data left) l)
data_goes way nid left l = let s = some_bits OTHER_DATA refl left in (s.0, (after_kept way nid left l s.0).0 s.1)

-- ---- The packets.

pub packets_start : (way : Way) (nid : ℕ) (l : PacketsState) (x : Var) (rest bits : ℕ) → next_of l.stage ≡ Some x → Starts (left_of l.carrier l.room l.stage) x rest bits ↔ Starts (left_at way nid phase.Packets l) x rest bits
packets_start way nid l = filled_starts PaddingLeft (some_bits PADDING refl) l

pub packets_viable : (way : Way) (nid : ℕ) (l : PacketsState) (t : List Bool) → Viable (left_of l.carrier l.room l.stage) t → Viable (left_at way nid phase.Packets l) t
packets_viable way nid l = filled_viable PaddingLeft (some_bits PADDING refl) l

-- after closed packets comes PADDING
after_closed : (way : Way) (nid : ℕ) (l : PacketsState) → l.stage ≡ stage.Closed → Same (PacketsAfter l) (left_at way nid (after_padding l.room) l)
after_closed way nid l e =
    let none : Same (PacketsAfter l) (PaddingLeft (l.room - 0)) = rw e (chain_none (PaddedBy l.room)) in
    let all : l.room - 0 ≡ l.room = omega arith in
    same_along (PacketsAfter l) (PaddingLeft l.room) (left_at way nid (after_padding l.room) l) (subst (λ n. Same (PacketsAfter l) (PaddingLeft n)) all none) (after_bits way nid l.room l)

beyond_any : (way : Way) (nid : ℕ) (l : PacketsState) → Same (PacketsAfter l) (left_at way nid (after_packets l) l)
beyond_any way nid l =
    by_test (is_closed l.stage) (λ x. Same (PacketsAfter l) (left_at way nid x l)) (after_padding l.room) phase.Packets
    (λ t. after_closed way nid l (closed_stage l.stage t))
    (λ _. same_self (PacketsAfter l))

pub packets_after : (way : Way) (nid : ℕ) (l l' : PacketsState) (p : Reading) → Moved l.carrier l.room l.stage p l'.carrier l'.room l'.stage → Goes (left_of l'.carrier l'.room l'.stage) → Residual (left_at way nid phase.Packets l) p (left_at way nid (after_packets l') l')
packets_after way nid l l' p m g = residual_same (left_at way nid phase.Packets l) p (PacketsAfter l') (left_at way nid (after_packets l') l') (filled_after PaddingLeft l l' p m g) (beyond_any way nid l')

-- all of it continues if the packets do
pub packets_all : (way : Way) (nid : ℕ) (l : PacketsState) → Goes (left_of l.carrier l.room l.stage) → Goes (left_at way nid (after_packets l) l)
packets_all way nid l g = let h = filled_goes PaddingLeft (some_bits PADDING refl) l g in (h.0, (beyond_any way nid l h.0).0 h.1)

-- ---- The front.

pub front_tested : (way : Way) (nid at : ℕ) (l : PacketsState) (x : Var) (rest bits : ℕ) → next_at way nid (phase.Front at) l ≡ Some x → rest < width x → bits < 2 ^ (width x - rest) → Goes (left_at way nid (phase.Front at) l) → IsTrue (begins (ranges x) rest bits) ↔ Starts (left_at way nid (phase.Front at) l) x rest bits
front_tested way nid at l x rest bits e lt fits g = fronts.front_tested (PacketsAfter l) (drop at (front_vars way nid)) x rest bits e lt fits g

after_front : (way : Way) (nid at : ℕ) (l : PacketsState) → Same (Chain (ReadsFields (drop (suc at) (front_vars way nid))) (λ _. PacketsAfter l)) (left_at way nid (beyond_front (length (front_vars way nid)) (at + 1) l) l)
after_front way nid at l =
    let vs = front_vars way nid in
    by_test (ltb (at + 1) (length vs)) (λ x. Same (Chain (ReadsFields (drop (suc at) vs)) (λ _. PacketsAfter l)) (left_at way nid x l)) (phase.Front (at + 1)) (after_packets l)
    (λ _. let e : at + 1 ≡ suc at = omega arith in rw e (same_self (Chain (ReadsFields (drop (suc at) vs)) (λ _. PacketsAfter l))))
    (λ t. let e : drop (suc at) vs ≡ [] = (let b = below_false (at + 1) (length vs) t in drop_of_length-le vs {i = suc at} (omega arith)) in
    let none : Same (Chain (ReadsFields (drop (suc at) vs)) (λ _. PacketsAfter l)) (PacketsAfter l) = rw e (chain_none (λ _. PacketsAfter l)) in
    same_along (Chain (ReadsFields (drop (suc at) vs)) (λ _. PacketsAfter l)) (PacketsAfter l) (left_at way nid (after_packets l) l) none (beyond_any way nid l))

pub front_after : (way : Way) (nid at : ℕ) (l : PacketsState) (x : Var) (number : ℕ) → at < length (front_vars way nid) → next_at way nid (phase.Front at) l ≡ Some x → Starts (left_at way nid (phase.Front at) l) x 0 number
    → Residual (left_at way nid (phase.Front at) l) ((x, number) ∷ []) (left_at way nid (beyond_front (length (front_vars way nid)) (at + 1) l) l)
front_after way nid at l x number h e s =
    let vs = front_vars way nid in
    residual_same (left_at way nid (phase.Front at) l) ((x, number) ∷ []) (Then (ReadsFields (drop (suc at) vs)) (PacketsAfter l)) (left_at way nid (beyond_front (length vs) (at + 1) l) l) (fronts.front_after (PacketsAfter l) vs at x number h e s) (after_front way nid at l)
