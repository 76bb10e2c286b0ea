-- What the reader asks of what is left of a telegram.
use Rattle.std.proofs.Common.{◌≡◌, ℕ, zero, suc, ◌-◌, ◌<◌, true, false, [], ◌++◌, length, drop, Some, None, refl, sym, subst, ◌∙◌, arith, append_assoc, append-nil}
use Rattle.std.specs.Prelude.{IsTrue, replicate, not, ◌&&◌, ◌==◌, nat_lt}
use Rattle.std.proofs.lemmas.Bool.{and_parts, ltb-true, not-true}
use Rattle.etcs_vars.specs.declared.var.Var.{Var}
use Rattle.etcs_vars.specs.declared.var.Var.TheVariants.{FILL, PAD}
use Rattle.etcs_vars.specs.Reading.{Reading, spelled, kept}
use Rattle.etcs_vars.proofs.Apart.{Agree-same}
use Rattle.etcs_vars.proofs.Walk.{Regular}
use Rattle.etcs_rows.specs.declared.frames.Carrier.{Carrier}
use Rattle.etcs_rows.specs.declared.frames.Carrier.TheVariants.{Telegram, Message}
use Rattle.etcs_reader.specs.Rests.{BeginsWith, Ended}
use Rattle.etcs_reader.specs.Fields.{ReadsFields}
use Rattle.etcs_reader.specs.laws.FieldLaws.{residual_none, residual_along, fields_regular, fields_begin}
use Rattle.etcs_sequence.specs.AtOnce.{Holds}
use Rattle.etcs_sequence.specs.declared.state.PacketsState.{PacketsState}
use Rattle.etcs_sequence.specs.Lefts.{left_of, ahead, is_closed, is_telegram}
use Rattle.etcs_sequence.specs.BitLaws.{BitsLeft}
use Rattle.etcs_sequence.specs.laws.BitLaws.{bits_fit, bits_regular, bits_begin}
use Rattle.etcs_sequence.specs.laws.ChainLaws.{chain_regular, chain_begins}
use Rattle.etcs_sequence.specs.laws.LabelLaws.{some_first}
use Rattle.etcs_sequence.specs.laws.LeftLaws.{left_regular, left_begins}
use Rattle.etcs_sequence.specs.laws.StageLaws.{open_next}
use Rattle.etcs_sequence.specs.laws.ThenLaws.{then_regular, then_begins_with}
use Rattle.etcs_telegram.specs.declared.size.Size.{Size}
use Rattle.etcs_telegram.specs.declared.phase.Phase.{Phase}
use Rattle.etcs_telegram.specs.declared.phase.Phase.TheVariants.{Header, Packets, Fill, Pad, Whole}
use Rattle.etcs_telegram.specs.Telegrams.{pad_bits}
use Rattle.etcs_tables.specs.Headers.{header_row}
use Rattle.etcs_telegram.specs.Phases.{PadLeft, FillLeft}
use Rattle.etcs_telegram.specs.Lefts.{FillBy, PacketsAfter, left_at, next_at, is_open, stands_at, TelegramState, Left, next_var, HoldsIn, Follows}

-- ---- FILL and PAD.

pub pad_regular : (n : ℕ) → Regular (PadLeft n)
pad_regular n = record {
  agree = λ a b e f. rw (e, f) (Agree-same (kept PAD (replicate n false)));
  fit = λ a e. rw e (bits_fit PAD (replicate n false) refl);
}

pub fill_regular : (size : Size) (n : ℕ) → Regular (FillLeft size n)
fill_regular size n = then_regular (BitsLeft FILL n) (PadLeft (pad_bits size)) (bits_regular FILL refl n) (pad_regular (pad_bits size))

pub fill_begins : (size : Size) (n : ℕ) → 0 < n → BeginsWith (FillLeft size n) FILL
fill_begins size n some = then_begins_with (BitsLeft FILL n) (PadLeft (pad_bits size)) FILL (bits_begin FILL refl n some)

pub pad_begins : (n : ℕ) → 0 < n → BeginsWith (PadLeft n) PAD
pad_begins zero some r e = absurd (omega arith)
pad_begins (suc n) some r e = (0, kept PAD (replicate n false), e)

-- ---- Packets with FILL after them.

module _ (size : Size) (l : PacketsState) where
  after_regular : Regular (PacketsAfter size l)
  after_regular =
      let room = ahead l.carrier l.room l.stage in
      chain_regular (left_of l.carrier l.room l.stage) (FillBy size room) (left_regular l.carrier l.room l.stage) (λ a _. fill_regular size (room - length (spelled a)))

  regular_at : (phase : Phase) → Regular (left_at size phase l)
  regular_at (Header at) = chain_regular (ReadsFields (drop at header_row)) (λ _. PacketsAfter size l) (fields_regular (drop at header_row)) (λ _ _. after_regular)
  regular_at Packets = after_regular
  regular_at (Fill left) = fill_regular size left
  regular_at (Pad left) = pad_regular left
  regular_at Whole = pad_regular 0

  begins_at : (phase : Phase) (n : ℕ) → IsTrue (stands_at phase n l) → (x : Var) → next_at phase l ≡ Some x → BeginsWith (left_at size phase l) x
  begins_at (Header at) n h x e = chain_begins (ReadsFields (drop at header_row)) (λ _. PacketsAfter size l) x (fields_begin (drop at header_row) x e)
  begins_at Packets n h x e = chain_begins (left_of l.carrier l.room l.stage) (FillBy size (ahead l.carrier l.room l.stage)) x (left_begins l.carrier l.room l.stage l.stands x e)
  begins_at (Fill left) n h x e =
      let same : FILL ≡ x = cc in
      subst (BeginsWith (FillLeft size left)) same (fill_begins size left (ltb-true 0 left (and_parts (nat_lt 0 left) (is_closed l.stage) h).0))
  begins_at (Pad left) n h x e =
      let same : PAD ≡ x = cc in
      subst (BeginsWith (PadLeft left)) same (pad_begins left (ltb-true 0 left h))
  begins_at Whole n h x e = absurd cc

pub rest_regular : {S : Type 0} (s : TelegramState S) → Regular (Left s)
rest_regular s = regular_at s.size s.left s.phase

pub rest_begins : {S : Type 0} (s : TelegramState S) (x : Var) → next_var s ≡ Some x → BeginsWith (Left s) x
rest_begins s x e = begins_at s.size s.left s.phase (length s.header) s.stands x e

-- ---- Nothing comes next.

-- the carrier and the stage of packets that are open
pub opens : (l : PacketsState) → is_open l ≡ true → (l.carrier ≡ Telegram) × (is_closed l.stage ≡ false)
opens l h =
    let both = and_parts (is_telegram l.carrier) (not (is_closed l.stage)) h in
    (telegram l.carrier both.0, not-true (is_closed l.stage) both.1)
  where
    telegram : (c : Carrier) → is_telegram c ≡ true → c ≡ Telegram
    telegram Telegram e = refl
    telegram (Message way) e = absurd cc

-- the telegram is whole
whole_at : (phase : Phase) (n : ℕ) (l : PacketsState) → IsTrue (stands_at phase n l) → next_at phase l ≡ None → phase ≡ Whole
whole_at (Header at) n l h e =
    let below = and_parts (nat_lt at 10) ((n == at) && is_open l) h in
    absurd (some_first header_row at (ltb-true at 10 below.0) e)
whole_at Packets n l h e =
    let both = and_parts (n == 10) (is_open l) h in
    absurd (open_next l.carrier l.room l.stage l.stands (opens l both.1).1 e)
whole_at (Fill left) n l h e = absurd cc
whole_at (Pad left) n l h e = absurd cc
whole_at Whole n l h e = refl

pub ended_whole : {S : Type 0} (s : TelegramState S) → next_var s ≡ None → s.phase ≡ Whole
ended_whole s e = whole_at s.phase (length s.header) s.left s.stands e

pub rest_ended : {S : Type 0} (s : TelegramState S) → next_var s ≡ None → Ended (Left s)
rest_ended s e = subst (λ (p : Phase). Ended (left_at s.size p s.left)) (sym (ended_whole s e)) (λ r k. k)

-- ---- From one to the next.

module _ {S : Type 0} (holds : S → Holds) where
  pub follows_none : (s : TelegramState S) → Follows holds s [] s
  follows_none s = record {
    same = refl;
    residual = residual_none (Left s);
    held = λ q h. subst (HoldsIn holds s) (sym (append-nil q)) h;
  }

  pub follows_along : (s t u : TelegramState S) (p q : Reading) → Follows holds s p t → Follows holds t q u → Follows holds s (p ++ q) u
  follows_along s t u p q h k = record {
    same = k.same ∙ h.same;
    residual = residual_along (Left s) p (Left t) q (Left u) h.residual k.residual;
    held = λ r x. subst (HoldsIn holds u) (append_assoc r p q) (k.held (r ++ p) (h.held r x));
  }
