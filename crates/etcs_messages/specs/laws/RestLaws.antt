-- What the reader asks of what is left of a message.
use Rattle.std.proofs.Common.{◌≡◌, ℕ, ◌-◌, ◌*◌, ◌^◌, ◌<◌, List, [], ◌++◌, length, drop, Some, None, refl, subst, sym, ◌∙◌, append_assoc, append-nil}
use Rattle.std.specs.Prelude.{IsTrue, Option, ◌&&◌, ◌==◌, not, nat_lt}
use Rattle.std.proofs.lemmas.Bool.{and_parts, ltb-true, not-true}
use Rattle.etcs_vars.specs.declared.var.Var.{Var}
use Rattle.etcs_vars.specs.declared.var.Var.TheVariants.{NID_MESSAGE, L_MESSAGE, PADDING, OTHER_DATA}
use Rattle.etcs_vars.specs.Reading.{Reading, spelled}
use Rattle.etcs_vars.proofs.Stepping.{Opens}
use Rattle.etcs_vars.proofs.Walk.{Regular}
use Rattle.etcs_tables.specs.declared.row.Way.{Way}
use Rattle.etcs_rows.specs.declared.frames.Carrier.TheVariants.{Message}
use Rattle.etcs_sequence.specs.Contents.{PacketsIn, KeptIn}
use Rattle.etcs_sequence.specs.laws.Agreement.{run_regular}
use Rattle.etcs_reader.specs.Rests.{BeginsWith, Ended}
use Rattle.etcs_reader.specs.Fields.{ReadsFields}
use Rattle.etcs_reader.specs.laws.FieldLaws.{residual_none, residual_along, fields_regular, fields_begin}
use Rattle.etcs_sequence.specs.AtOnce.{Holds}
use Rattle.etcs_sequence.specs.declared.state.PacketsState.{PacketsState}
use Rattle.etcs_sequence.specs.laws.BitLaws.{bits_regular, bits_begin}
use Rattle.etcs_sequence.specs.laws.ChainLaws.{chain_regular, chain_begins}
use Rattle.etcs_sequence.specs.laws.LabelLaws.{some_first}
use Rattle.etcs_sequence.specs.Lefts.{left_of, ahead, is_closed}
use Rattle.etcs_sequence.specs.laws.LeftLaws.{left_regular, left_begins}
use Rattle.etcs_sequence.specs.laws.OpenLaws.{part_regular, opens_begins, opens_regular}
use Rattle.etcs_sequence.specs.laws.StageLaws.{open_next}
use Rattle.etcs_messages.specs.declared.phase.Phase.{Phase}
use Rattle.etcs_messages.specs.declared.phase.Phase.TheVariants as phase
use Rattle.etcs_messages.specs.Lefts.{front_row, front_vars, front_bits, PaddingLeft, PaddedBy, Padded, PacketsAfter, PacketsFrom, AfterMessageLength, LengthLeft, NumberLeft, left_at, next_at, is_message, stands_at, MessageState, Left, next_var, HoldsIn, Follows}

-- ---- NID_MESSAGE and L_MESSAGE.

abbrev pub AfterNumber : (way : Way) → ℕ → Reading → Type 0
AfterNumber way n r = (n < 2 ^ 8) × LengthLeft way n r

pub number_opens : (way : Way) → Opens (NumberLeft way) NID_MESSAGE (AfterNumber way)
number_opens way = record {
  opens = λ r (n, q, small, e, h). (n, q, e, small, (small, h));
  closes = λ n q (small, h). (n, q, small, refl, h);
}

-- the length of a message is below 1024 bytes
pub length_small : (way : Way) (found : Option (List Var)) (len : ℕ) (r : Reading) → AfterMessageLength way found len r → len < 2 ^ 10
length_small way None len r h = h.1
length_small way (Some vs) len r h = h.1

pub length_opens : (way : Way) (nid : ℕ) → Opens (LengthLeft way nid) L_MESSAGE (AfterMessageLength way (front_row way nid))
length_opens way nid = record {
  opens = λ r (n, q, e, h). (n, q, e, length_small way (front_row way nid) n q h, h);
  closes = λ n q h. (n, q, refl, h);
}

padded_regular : (P : Reading → Type 0) (room : ℕ) → Regular P → Regular (Padded P room)
padded_regular P room p = chain_regular P (PaddedBy room) p (λ a _. bits_regular PADDING refl (room - length (spelled a)))

kept_regular : (n : ℕ) → Regular (KeptIn n)
kept_regular n = bits_regular OTHER_DATA refl n

after_length : (way : Way) (found : Option (List Var)) (len : ℕ) → Regular (AfterMessageLength way found len)
after_length way None len = part_regular (AfterMessageLength way None len) (KeptIn (8 * len - 18)) (λ r h. h.2) (kept_regular (8 * len - 18))
after_length way (Some vs) len =
    let room = 8 * len - front_bits vs in
    let packets : Regular (PacketsFrom way (front_bits vs) len) = padded_regular (PacketsIn (Message way) room) room (run_regular (Message way) room) in
    let all = chain_regular (ReadsFields vs) (λ _. PacketsFrom way (front_bits vs) len) (fields_regular vs) (λ _ _. packets) in
    record { agree = λ a b h k. all.agree a b h.2 k.2; fit = λ a h. all.fit a h.2 }

length_regular : (way : Way) (nid : ℕ) → Regular (LengthLeft way nid)
length_regular way nid = opens_regular (LengthLeft way nid) L_MESSAGE (AfterMessageLength way (front_row way nid)) (length_opens way nid) (λ n. after_length way (front_row way nid) n)

number_regular : (way : Way) → Regular (NumberLeft way)
number_regular way = opens_regular (NumberLeft way) NID_MESSAGE (AfterNumber way) (number_opens way) (λ n. part_regular (AfterNumber way n) (LengthLeft way n) (λ r h. h.1) (length_regular way n))

-- ---- Any phase.

after_regular : (l : PacketsState) → Regular (PacketsAfter l)
after_regular l = padded_regular (left_of l.carrier l.room l.stage) (ahead l.carrier l.room l.stage) (left_regular l.carrier l.room l.stage)

regular_at : (way : Way) (nid : ℕ) (l : PacketsState) (stage : Phase) → Regular (left_at way nid stage l)
regular_at way nid l phase.Number = number_regular way
regular_at way nid l phase.Length = length_regular way nid
regular_at way nid l (phase.Front at) = chain_regular (ReadsFields (drop at (front_vars way nid))) (λ _. PacketsAfter l) (fields_regular (drop at (front_vars way nid))) (λ _ _. after_regular l)
regular_at way nid l phase.Packets = after_regular l
regular_at way nid l (phase.Padding left) = bits_regular PADDING refl left
regular_at way nid l (phase.Data left) = kept_regular left
regular_at way nid l phase.Whole = record { agree = λ a b e f. rw (e, f) tt; fit = λ a e. rw e tt }

begins_at : (way : Way) (nid : ℕ) (l : PacketsState) (stage : Phase) (n : ℕ) → IsTrue (stands_at way nid stage n l) → (x : Var) → next_at way nid stage l ≡ Some x → BeginsWith (left_at way nid stage l) x
begins_at way nid l phase.Number n h x e =
    let same : NID_MESSAGE ≡ x = cc in
    subst (BeginsWith (NumberLeft way)) same (opens_begins (NumberLeft way) NID_MESSAGE (AfterNumber way) (number_opens way))
begins_at way nid l phase.Length n h x e =
    let same : L_MESSAGE ≡ x = cc in
    subst (BeginsWith (LengthLeft way nid)) same (opens_begins (LengthLeft way nid) L_MESSAGE (AfterMessageLength way (front_row way nid)) (length_opens way nid))
begins_at way nid l (phase.Front at) n h x e = chain_begins (ReadsFields (drop at (front_vars way nid))) (λ _. PacketsAfter l) x (fields_begin (drop at (front_vars way nid)) x e)
begins_at way nid l phase.Packets n h x e = chain_begins (left_of l.carrier l.room l.stage) (PaddedBy (ahead l.carrier l.room l.stage)) x (left_begins l.carrier l.room l.stage l.stands x e)
begins_at way nid l (phase.Padding left) n h x e =
    let same : PADDING ≡ x = cc in
    subst (BeginsWith (PaddingLeft left)) same (bits_begin PADDING refl left (ltb-true 0 left (and_parts (nat_lt 0 left) (nat_lt left 8) h).0))
begins_at way nid l (phase.Data left) n h x e =
    let same : OTHER_DATA ≡ x = cc in
    subst (BeginsWith (KeptIn left)) same (bits_begin OTHER_DATA refl left (ltb-true 0 left (and_parts (nat_lt 0 left) (is_closed l.stage) h).0))
begins_at way nid l phase.Whole n h x e = absurd cc

whole_at : (way : Way) (nid : ℕ) (stage : Phase) (n : ℕ) (l : PacketsState) → IsTrue (stands_at way nid stage n l) → next_at way nid stage l ≡ None → stage ≡ phase.Whole
whole_at way nid phase.Number n l h e = absurd cc
whole_at way nid phase.Length n l h e = absurd cc
whole_at way nid (phase.Front at) n l h e =
    let below = and_parts (nat_lt at (length (front_vars way nid))) ((n == at) && is_message way l) h in
    absurd (some_first (front_vars way nid) at (ltb-true at (length (front_vars way nid)) below.0) e)
whole_at way nid phase.Packets n l h e =
    let both = and_parts (is_message way l) (not (is_closed l.stage)) h in
    absurd (open_next l.carrier l.room l.stage l.stands (not-true (is_closed l.stage) both.1) e)
whole_at way nid (phase.Padding left) n l h e = absurd cc
whole_at way nid (phase.Data left) n l h e = absurd cc
whole_at way nid phase.Whole n l h e = refl

module _ {S : Type 0} (s : MessageState S) where
  pub rest_regular : Regular (Left s)
  rest_regular = regular_at s.way s.nid s.left s.phase

  pub rest_begins : (x : Var) → next_var s ≡ Some x → BeginsWith (Left s) x
  rest_begins x e = begins_at s.way s.nid s.left s.phase (length s.front) s.stands x e

  -- if nothing comes next, the message is whole
  pub ended_whole : next_var s ≡ None → s.phase ≡ phase.Whole
  ended_whole e = whole_at s.way s.nid s.phase (length s.front) s.left s.stands e

  pub rest_ended : next_var s ≡ None → Ended (Left s)
  rest_ended e = subst (λ (p : Phase). Ended (left_at s.way s.nid p s.left)) (sym (ended_whole e)) (λ r k. k)

-- ---- From one to the next.

module _ {S : Type 0} (holds : S → Holds) where
  pub follows_none : (s : MessageState S) → Follows holds s [] s
  follows_none s = record {
    same = refl;
    residual = residual_none (Left s);
    held = λ q h. subst (HoldsIn holds s) (sym (append-nil q)) h;
  }

  pub follows_along : (s t u : MessageState S) (p q : Reading) → Follows holds s p t → Follows holds t q u → Follows holds s (p ++ q) u
  follows_along s t u p q h k = record {
    same = k.same ∙ h.same;
    residual = residual_along (Left s) p (Left t) q (Left u) h.residual k.residual;
    held = λ r x. subst (HoldsIn holds u) (append_assoc r p q) (k.held (r ++ p) (h.held r x));
  }
