-- What is left of a telegram after each of its variables.
use Rattle.std.proofs.Common.{◌≡◌, ℕ, zero, suc, ◌+◌, ◌-◌, ◌/◌, ◌^◌, ◌<◌, ◌≤◌, Bool, true, false, List, [], ◌∷◌, length, drop, get_or, Some, refl, sym, ap, subst, ◌∙◌, arith, ltb}
use Rattle.std.specs.Prelude.{IsTrue, ◌↔◌, ◌&&◌, ◌==◌, nat_lt, replicate, map, slice_get, slice_index_or}
use Rattle.std.proofs.lemmas.Bool.{and_parts, ltb-true, eqb-true}
use Rattle.std.proofs.Math.Seq.{drop-cons}
use Rattle.etcs_vars.specs.declared.var.Var.{Var}
use Rattle.etcs_vars.specs.declared.var.Var.TheVariants.{FILL, PAD}
use Rattle.etcs_vars.specs.Vars.{width, ranges, begins}
use Rattle.etcs_vars.specs.Reading.{Sent, Reading, kept, Viable, Then}
use Rattle.etcs_vars.specs.Walking.{Residual}
use Rattle.etcs_vars.proofs.Languages.{Same, same_self, same_along}
use Rattle.etcs_sequence.proofs.Turns.{residual_same}
use Rattle.etcs_reader.specs.Rests.{Starts, Goes}
use Rattle.etcs_reader.specs.Fields.{ReadsFields}
use Rattle.etcs_sequence.specs.declared.state.PacketsState.{PacketsState}
use Rattle.etcs_sequence.specs.declared.stage.Stage.TheVariants as stage
use Rattle.etcs_sequence.specs.Lefts.{left_of, is_closed, Moved}
use Rattle.etcs_sequence.specs.BitLaws.{BitsLeft}
use Rattle.etcs_sequence.specs.laws.BitLaws.{some_bits, bits_regular, bits_begin, bits_start, bits_number, bits_after, bits_viable}
use Rattle.etcs_sequence.proofs.StageLaws.{closed_stage}
use Rattle.etcs_sequence.proofs.FrontLaws.{front_tested, front_after}
use Rattle.etcs_sequence.proofs.FilledLaws.{filled_after, filled_starts, filled_viable, filled_goes}
use Rattle.etcs_sequence.proofs.ThenLaws.{then_starts}
use Rattle.etcs_rows.specs.declared.frames.Carrier.TheVariants.{Telegram}
use Rattle.etcs_telegram.specs.declared.size.Size.{Size}
use Rattle.etcs_telegram.specs.declared.phase.Phase.{Phase}
use Rattle.etcs_telegram.specs.declared.phase.Phase.TheVariants.{Header, Packets, Fill, Pad, Whole}
use Rattle.etcs_telegram.specs.Telegrams.{pad_bits}
use Rattle.etcs_tables.specs.Headers.{header_row}
use Rattle.etcs_tables.specs.declared.item.RowItem.TheVariants.{One}
use Rattle.etcs_telegram.specs.Phases.{header_var, after_header, after_pad, after_fill, PadLeft, FillLeft}
use Rattle.etcs_sequence.specs.ChainLaws.{Chain}
use Rattle.etcs_sequence.specs.laws.ChainLaws.{chain_viable}
use Rattle.etcs_sequence.proofs.ChainLaws.{chain_along, chain_none}
use Rattle.etcs_telegram.specs.Lefts.{FillBy, PacketsAfter, left_at, next_at, is_open, stands_at, after_packets, TelegramState, Left, next_var}
use Rattle.etcs_telegram.specs.laws.RestLaws.{opens}
use Rattle.etcs_telegram.proofs.PhaseSteps.{by_test, below_false, pad_goes, some_fill, none_left}

-- ---- The header.

pub header_parts : {S : Type 0} (s : TelegramState S) (at : ℕ) → s.phase ≡ Header at → (at < 10) × (length s.header ≡ at)
header_parts s at e =
    let h : IsTrue (stands_at (Header at) (length s.header) s.left) = subst (λ (x : Phase). IsTrue (stands_at x (length s.header) s.left)) e s.stands in
    let both = and_parts (nat_lt at 10) ((length s.header == at) && is_open s.left) h in
    (ltb-true at 10 both.0, eqb-true (length s.header) at (and_parts (length s.header == at) (is_open s.left) both.1).0)

pub header_tested : (size : Size) (at : ℕ) (l : PacketsState) (x : Var) (rest bits : ℕ) → next_at (Header at) l ≡ Some x → rest < width x → bits < 2 ^ (width x - rest) → Goes (left_at size (Header at) l) → IsTrue (begins (ranges x) rest bits) ↔ Starts (left_at size (Header at) l) x rest bits
header_tested size at l x rest bits e lt fits g = front_tested (PacketsAfter size l) (drop at header_row) x rest bits e lt fits g

header_after : (size : Size) (at : ℕ) (l : PacketsState) → at < 10 → Same (Chain (ReadsFields (drop (suc at) header_row)) (λ _. PacketsAfter size l)) (left_at size (after_header at) l)
header_after size at l h =
    by_test (ltb at 9) (λ x. Same (Chain (ReadsFields (drop (suc at) header_row)) (λ _. PacketsAfter size l)) (left_at size x l)) (Header (at + 1)) Packets
    (λ _. let e : at + 1 ≡ suc at = omega arith in rw e (same_self (Chain (ReadsFields (drop (suc at) header_row)) (λ _. PacketsAfter size l))))
    (λ t. let e : at ≡ 9 = (let b = below_false at 9 t in omega arith) in rw e (chain_none (λ _. PacketsAfter size l)))

pub header_beyond : (size : Size) (at : ℕ) (l : PacketsState) (x : Var) (number : ℕ) → at < 10 → next_at (Header at) l ≡ Some x → Starts (left_at size (Header at) l) x 0 number → Residual (left_at size (Header at) l) ((x, number) ∷ []) (left_at size (after_header at) l)
header_beyond size at l x number h e s =
    residual_same (left_at size (Header at) l) ((x, number) ∷ []) (Then (ReadsFields (drop (suc at) header_row)) (PacketsAfter size l)) (left_at size (after_header at) l) (front_after (PacketsAfter size l) header_row at x number h e s) (header_after size at l h)

-- the variable of an item, in a row of variables
pub one_at : (vs : List Var) (d : Var) (at : ℕ) (v : Var) → slice_get (map One vs) at ≡ Some (One v) → v ≡ slice_index_or vs at d
one_at [] d at v e = absurd cc
one_at (w ∷ vs) d zero v e = (let same : w ≡ v = cc in sym same)
one_at (w ∷ vs) d (suc at) v e = one_at vs d at v e

pub var_header : {S : Type 0} (s : TelegramState S) (at : ℕ) → s.phase ≡ Header at → Some (header_var at) ≡ next_var s
var_header s at e =
    let row : drop at header_row ≡ get_or header_row at PAD ∷ drop (suc at) header_row = drop-cons header_row at PAD (header_parts s at e).0 in
    rw e (rw row refl)

-- ---- The packets.

pub packets_viable : (size : Size) (l : PacketsState) (t : List Bool) → Viable (left_of l.carrier l.room l.stage) t → Viable (left_at size Packets l) t
packets_viable size l t v = filled_viable (FillLeft size) (some_fill size) l t v

-- after what is left of FILL comes PAD
pub beyond_fill : (size : Size) (left n : ℕ) (l : PacketsState) → n ≤ left → Same (FillLeft size (left - n)) (left_at size (after_fill size left n) l)
beyond_fill size left n l le =
    by_test (ltb n left) (λ x. Same (FillLeft size (left - n)) (left_at size x l)) (Fill (left - n)) (Pad (pad_bits size))
    (λ _. same_self (FillLeft size (left - n)))
    (λ t. let e : left - n ≡ 0 = (let b = below_false n left t in omega arith) in rw e (none_left size))

-- after closed packets comes FILL
after_closed : (size : Size) (l : PacketsState) → l.stage ≡ stage.Closed → Same (PacketsAfter size l) (left_at size (after_fill size l.room 0) l)
after_closed size l e =
    let none : Same (PacketsAfter size l) (FillLeft size (l.room - 0)) = rw e (chain_none (FillBy size l.room)) in
    same_along (PacketsAfter size l) (FillLeft size (l.room - 0)) (left_at size (after_fill size l.room 0) l) none (beyond_fill size l.room 0 l (omega arith))

beyond_any : (size : Size) (l : PacketsState) → Same (PacketsAfter size l) (left_at size (after_packets size l) l)
beyond_any size l =
    by_test (is_closed l.stage) (λ x. Same (PacketsAfter size l) (left_at size x l)) (after_fill size l.room 0) Packets
    (λ t. after_closed size l (closed_stage l.stage t))
    (λ _. same_self (PacketsAfter size l))

pub packets_after : (size : Size) (l l' : PacketsState) (p : Reading) → Moved l.carrier l.room l.stage p l'.carrier l'.room l'.stage → Goes (left_of l'.carrier l'.room l'.stage) → Residual (left_at size Packets l) p (left_at size (after_packets size l') l')
packets_after size l l' p m g = residual_same (left_at size Packets l) p (PacketsAfter size l') (left_at size (after_packets size l') l') (filled_after (FillLeft size) l l' p m g) (beyond_any size l')

-- all of it continues if the packets do
pub packets_all : (size : Size) (l : PacketsState) → Goes (left_of l.carrier l.room l.stage) → Goes (left_at size (after_packets size l) l)
packets_all size l g = let h = filled_goes (FillLeft size) (some_fill size) l g in (h.0, (beyond_any size l h.0).0 h.1)

-- ---- FILL.

fill_residual : (size : Size) (left : ℕ) (t : List Bool) → length t ≤ left → Residual (FillLeft size left) (kept FILL t) (FillLeft size (left - length t))
fill_residual size left t le =
    let Q : Reading → Type 0 = PadLeft (pad_bits size) in
    chain_along (BitsLeft FILL left) (BitsLeft FILL (left - length t)) (λ _. Q) (λ _. Q) (kept FILL t) (bits_regular FILL refl left) (bits_after FILL refl left t le) (some_bits FILL refl (left - length t)) (λ a b. (λ k. k, λ k. k))

pub fill_after : (size : Size) (left : ℕ) (l : PacketsState) (t : List Bool) → length t ≤ left → Residual (FillLeft size left) (kept FILL t) (left_at size (after_fill size left (length t)) l)
fill_after size left l t le = residual_same (FillLeft size left) (kept FILL t) (FillLeft size (left - length t)) (left_at size (after_fill size left (length t)) l) (fill_residual size left t le) (beyond_fill size left (length t) l le)

-- a number continues if it does in FILL alone
fill_starts : (size : Size) (left rest bits : ℕ) → 0 < left → Starts (BitsLeft FILL left) FILL rest bits ↔ Starts (FillLeft size left) FILL rest bits
fill_starts size left rest bits pos = then_starts (BitsLeft FILL left) (PadLeft (pad_bits size)) FILL (bits_begin FILL refl left pos) (pad_goes (pad_bits size)) rest bits

pub fill_goes : (size : Size) (left n : ℕ) (l : PacketsState) → n ≤ left → Goes (left_at size (after_fill size left n) l)
fill_goes size left n l le = let r = some_fill size (left - n) in (r.0, (beyond_fill size left n l le r.0).0 r.1)

-- bits of FILL continue
pub fill_viable : (size : Size) (left : ℕ) (t : List Bool) → length t ≤ left → Viable (FillLeft size left) t
fill_viable size left t le = chain_viable (BitsLeft FILL left) (λ _. PadLeft (pad_bits size)) (λ a h. pad_goes (pad_bits size)) t (bits_viable FILL refl left t le)

-- ---- PAD.

pad_number : (left n : ℕ) (r : Reading) → PadLeft left ((PAD, n) ∷ r) → n ≡ 0
pad_number zero n r e = absurd cc
pad_number (suc left) n r e = let f : ◌≡◌ {A = Sent} (PAD, n) (PAD, 0) = cc in ap (λ (u : Sent). u.1) f

-- a bit of PAD is zero
pub pad_starts : (left number : ℕ) → 0 < left → (number ≡ 0) ↔ Starts (PadLeft left) PAD 0 number
pad_starts zero number pos = absurd (omega arith)
pad_starts (suc left) number pos = (
  λ e. (0, kept PAD (replicate left false), refl, (let one : 0 / 2 ^ 0 ≡ 0 = omega arith in one ∙ sym e)),
  λ (n, r, h, e). (let one : n / 2 ^ 0 ≡ n = omega arith in sym e ∙ one ∙ pad_number (suc left) n r h),
)

pad_after : (size : Size) (k : ℕ) (l : PacketsState) → Same (PadLeft k) (left_at size (after_pad (suc k)) l)
pad_after size k l =
    by_test (ltb 1 (suc k)) (λ x. Same (PadLeft k) (left_at size x l)) (Pad (suc k - 1)) Whole
    (λ _. let e : suc k - 1 ≡ k = omega arith in rw e (same_self (PadLeft k)))
    (λ t. let e : k ≡ 0 = (let b = below_false 1 (suc k) t in omega arith) in rw e (same_self (PadLeft 0)))

pub pad_beyond : (size : Size) (left : ℕ) (l : PacketsState) → 0 < left → Residual (PadLeft left) ((PAD, 0) ∷ []) (left_at size (after_pad left) l)
pad_beyond size zero l pos = absurd (omega arith)
pad_beyond size (suc k) l pos =
    let one : Residual (PadLeft (suc k)) ((PAD, 0) ∷ []) (PadLeft k) = record {
      to = λ q e. (let t : q ≡ kept PAD (replicate k false) = cc in t);
      from = λ q e. (let t : ◌≡◌ {A = Reading} ((PAD, 0) ∷ q) ((PAD, 0) ∷ kept PAD (replicate k false)) = cc in t);
    } in
    residual_same (PadLeft (suc k)) ((PAD, 0) ∷ []) (PadLeft k) (left_at size (after_pad (suc k)) l) one (pad_after size k l)

-- ---- What holds.

module _ {S : Type 0} (s : TelegramState S) where
  pub packets_parts : s.phase ≡ Packets → (length s.header ≡ 10) × (s.left.carrier ≡ Telegram) × (is_closed s.left.stage ≡ false)
  packets_parts e =
      let h : IsTrue (stands_at Packets (length s.header) s.left) = subst (λ (x : Phase). IsTrue (stands_at x (length s.header) s.left)) e s.stands in
      let both = and_parts (length s.header == 10) (is_open s.left) h in
      let o = opens s.left both.1 in
      (eqb-true (length s.header) 10 both.0, o.0, o.1)

  pub fill_parts : (left : ℕ) → s.phase ≡ Fill left → (0 < left) × (is_closed s.left.stage ≡ true)
  fill_parts left e =
      let h : IsTrue (stands_at (Fill left) (length s.header) s.left) = subst (λ (x : Phase). IsTrue (stands_at x (length s.header) s.left)) e s.stands in
      let both = and_parts (nat_lt 0 left) (is_closed s.left.stage) h in
      (ltb-true 0 left both.0, both.1)

  pub pad_parts : (left : ℕ) → s.phase ≡ Pad left → 0 < left
  pad_parts left e = ltb-true 0 left (subst (λ (x : Phase). IsTrue (stands_at x (length s.header) s.left)) e s.stands)

-- ---- Whether a number continues.

module _ {S : Type 0} (s : TelegramState S) (x : Var) (rest bits : ℕ) (next : next_var s ≡ Some x) where
  pub begins_header : (at : ℕ) → s.phase ≡ Header at → rest < width x → bits < 2 ^ (width x - rest) → Goes (Left s) → IsTrue (begins (ranges x) rest bits) ↔ Starts (Left s) x rest bits
  begins_header at e lt fits g = rw e (header_tested s.size at s.left x rest bits (rw e at next) lt fits (rw e at g))

  pub begins_packets : s.phase ≡ Packets → Starts (left_of s.left.carrier s.left.room s.left.stage) x rest bits ↔ Starts (Left s) x rest bits
  begins_packets e = rw e (filled_starts (FillLeft s.size) (some_fill s.size) s.left x rest bits (rw e at next))

  pub begins_fill : (left : ℕ) → s.phase ≡ Fill left → rest < width x → bits < 2 ^ (width x - rest) → Starts (Left s) x rest bits
  begins_fill left e lt fits =
      let pos = (fill_parts s left e).0 in
      let next' : next_at (Fill left) s.left ≡ Some x = rw e at next in
      let same : FILL ≡ x = cc in
      rw (e, ← same) ((fill_starts s.size left rest bits pos).0 (bits_start FILL refl left rest bits pos (rw (← same) at lt) (rw (← same) at fits)))

module _ {S : Type 0} (s : TelegramState S) (x : Var) (number left : ℕ) (next : next_var s ≡ Some x) (goes : Starts (Left s) x 0 number) where
  -- what continues of FILL is a bit
  pub fill_bit : s.phase ≡ Fill left → (x ≡ FILL) × (number < 2)
  fill_bit e =
      let pos = (fill_parts s left e).0 in
      let next' : next_at (Fill left) s.left ≡ Some x = rw e at next in
      let same : FILL ≡ x = cc in
      let goes' : Starts (FillLeft s.size left) FILL 0 number = rw (e, ← same) at goes in
      (sym same, bits_number FILL refl left number ((fill_starts s.size left 0 number pos).1 goes'))

  -- and of PAD a zero
  pub pad_bit : s.phase ≡ Pad left → ◌≡◌ {A = Reading} ((x, number) ∷ []) ((PAD, 0) ∷ [])
  pad_bit e =
      let pos = pad_parts s left e in
      let next' : next_at (Pad left) s.left ≡ Some x = rw e at next in
      let same : PAD ≡ x = cc in
      let goes' : Starts (PadLeft left) PAD 0 number = rw (e, ← same) at goes in
      let zero-is : number ≡ 0 = (pad_starts left number pos).1 goes' in
      cc
