-- Bytes of several lines, of which the last ones came later.
use Rattle.std.proofs.Common.{◌≡◌, ℕ, ◌+◌, ◌-◌, ◌≤◌, ◌<◌, ◌⊎◌, Bool, true, false, List, [], ◌∷◌, ◌++◌, map, length, take, drop, replicate, refl, sym, ap, subst, ◌∙◌, arith, append_assoc, inl, inr}
use Rattle.std.specs.Prelude.{◌==◌, Result, Ok, Err, Some, None, Option, IsTrue, slice_index, if◌then◌else◌}
use Rattle.std.proofs.lemmas.Bool.{cases_lt, cases_eq, eq-eqb, ne_eqb, false≢true}
use Rattle.std.proofs.lemmas.List.{append-nil, length-append, length-take-le, length-drop, length-replicate, drop_all, drop-take, drop-drop, drop-append-le, take_all, take_at, take-take, take-append-le, get_or-take, get_or-drop, get_or_append_left, get_or-append_right, get_or-replicate}
use Rattle.hex.specs.Hex.{decode_of}
use Rattle.etcs_runs.specs.Digits.{is_passed_over, line_digits}
use Rattle.etcs_runs.specs.declared.form.Form.{Form}
use Rattle.etcs_runs.specs.declared.form.Form.TheVariants.{Hex, Bin, Json}
use Rattle.etcs_runs.specs.declared.fault.RunFault.{RunFault}
use Rattle.etcs_runs.specs.declared.fault.RunFault.TheVariants.{Refused, Truncated}
use Rattle.etcs_text.specs.declared.entry.Kind.{Kind}
use Rattle.etcs_explain.specs.declared.task.Task.{Task}
use Rattle.etcs_explain.specs.Kinds.{kind_of}
use Rattle.etcs_explain.specs.Inputs.{Token, of_byte, of_line, placed, digits_say, said, is_long, line_tokens}
use Rattle.etcs_explain.specs.Cuts.{AreFew, IsFront, awaited, of_this, first_line, IsCut, IsPast, EndsBefore, AreJoined, IsOver}
use Rattle.etcs_explain.specs.Parts.{IsBroken, GoesOn}
use Rattle.etcs_explain.specs.Stands.{ItemPart, Held, Ready, AreReady, Comes}
use Rattle.etcs_explain.proofs.Parting.{placed_none, placed_split, placed_both}
use Rattle.etcs_explain.proofs.Awaiting.{three_awaited, held_item, open_few}

-- ---- What comes after a line.

comes_less : (form : Form) (n : ℕ) (next : List Token) → Comes form (n + 1) next → Comes form n next
comes_less Hex n [] h = tt
comes_less Hex n (of_byte m b ∷ ts) h = omega (arith, h)
comes_less Hex n (of_line m text ∷ ts) h = omega (arith, h)
comes_less Bin n next h = tt
comes_less Json n next h = tt

comes_bytes : (n : ℕ) (bytes : List ℕ) (next : List Token) → Comes Hex (n + 1) next → Comes Hex n (map (of_byte (n + 1)) bytes ++ next)
comes_bytes n [] next h = comes_less Hex n next h
comes_bytes n (b ∷ bytes) next h = omega arith

comes_said : {E : Type 0} (kind : Option Kind) (n : ℕ) (text : List ℕ) (r : Result (List ℕ) E) (next : List Token) → Comes Hex (n + 1) next → Comes Hex n (said kind (n + 1) text r ++ next)
comes_said kind n text (Ok []) next h = omega arith
comes_said kind n text (Ok (b ∷ bs)) next h = comes_bytes n (digits_say kind (b ∷ bs)) next h
comes_said kind n text (Err e) next h = omega arith

comes_if : (n : ℕ) (b : Bool) (xs ys next : List Token) → Comes Hex n (xs ++ next) → Comes Hex n (ys ++ next) → Comes Hex n ((if b then xs else ys) ++ next)
comes_if n true xs ys next h k = h
comes_if n false xs ys next h k = k

-- after a line and before the next
pub comes_line : (kind : Option Kind) (form : Form) (n : ℕ) (text : List ℕ) (next : List Token) → Comes form (n + 1) next → Comes form n (line_tokens kind form (n + 1) text ++ next)
comes_line kind Hex n text next h =
    comes_if n (is_long text) [] _ next (comes_less Hex n next h) (comes_if n (is_passed_over text) [] _ next (comes_less Hex n next h) (comes_said kind n text (decode_of (line_digits text)) next h))
comes_line kind Bin n text next h = tt
comes_line kind Json n text next h = tt

past_comes : (n : ℕ) (next : List Token) → Comes Hex n next → IsPast n next
past_comes n [] h = tt
past_comes n (of_byte m b ∷ ts) h = λ e. omega (arith, h, e)
past_comes n (of_line m text ∷ ts) h = tt

-- ---- The first line of what comes.

none_of_this : (n : ℕ) (next : List Token) → IsPast n next → of_this n next ≡ []
none_of_this n [] h = refl
none_of_this n (of_byte m b ∷ ts) h = let e : (m == n) ≡ false = ne_eqb m n h in rw e refl
none_of_this n (of_line m text ∷ ts) h = refl

this_line : (n : ℕ) (bytes : List ℕ) (next : List Token) → IsPast n next → of_this n (map (of_byte n) bytes ++ next) ≡ bytes
this_line n [] next h = none_of_this n next h
this_line n (b ∷ bytes) next h = let e : (n == n) ≡ true = eq-eqb n n refl in rw e (ap (λ (z : List ℕ). b ∷ z) (this_line n bytes next h))

pub line_first : (n : ℕ) (bytes : List ℕ) (next : List Token) → 0 < length bytes → IsPast n next → first_line (map (of_byte n) bytes ++ next) ≡ bytes
line_first n [] next some h = absurd (omega (arith, some))
line_first n (b ∷ bytes) next some h = ap (λ (z : List ℕ). b ∷ z) (this_line n bytes next h)

pub line_ends : (asked : Option Kind) (held : List ℕ) (n : ℕ) (bytes : List ℕ) (next : List Token) → 0 < length bytes → Comes Hex n next → IsCut asked held bytes → EndsBefore asked held (map (of_byte n) bytes ++ next)
line_ends asked held n [] next some h cut = absurd (omega (arith, some))
line_ends asked held n (b ∷ bytes) next some h cut = subst (λ (z : List ℕ). IsCut asked held z) (sym (line_first n (b ∷ bytes) next some (past_comes n next h))) cut

-- ---- Bytes that are held.

pub held_none : (asked : Option Kind) (lines : List ℕ) (next : List Token) → Held asked lines [] next
held_none asked lines next = record {
  few = omega (arith, three_awaited (kind_of asked []) []);
  joined = λ n lt other. absurd (omega (arith, lt));
  past = λ some. absurd (omega (arith, some));
}

pub held_at : (asked : Option Kind) (lines lines' bytes bytes' : List ℕ) (next : List Token) → lines' ≡ lines → bytes' ≡ bytes → Held asked lines bytes next → Held asked lines' bytes' next
held_at asked lines lines' bytes bytes' next l b h = subst (λ (z : List ℕ). Held asked z bytes' next) (sym l) (subst (λ (z : List ℕ). Held asked lines z next) (sym b) h)

pub held_ready : (last : Bool) (asked : Option Kind) (lines bytes : List ℕ) (next : List Token) → Held asked lines bytes next → (IsTrue last → 0 < length bytes → EndsBefore asked bytes next) → Ready last asked lines bytes next
held_ready last asked lines bytes next h ends = record {
  held = length bytes;
  within = omega arith;
  few = subst (λ (z : List ℕ). AreFew asked z) (sym (take_all (length bytes) bytes (omega arith))) h.few;
  one = λ n le lt. absurd (omega (arith, le, lt));
  joined = h.joined;
  past = h.past;
  all = λ is. refl;
  ends = ends;
}

pub ready_held : (last : Bool) (asked : Option Kind) (lines bytes : List ℕ) (next : List Token) → Ready last asked lines bytes next → AreFew asked bytes → Held asked lines bytes next
ready_held last asked lines bytes next r few = record { few = few; joined = r.joined; past = r.past }

-- ---- Lines that end among bytes.

-- where one does, before these
abbrev Inside : Option Kind → List ℕ → List Token → Type 0
Inside asked bytes next = AreFew asked bytes × (IsCut asked bytes (first_line next) → ⊥)

inside_at : (asked : Option Kind) (bytes bytes' : List ℕ) (next next' : List Token) → bytes' ≡ bytes → next' ≡ next → Inside asked bytes next → Inside asked bytes' next'
inside_at asked bytes bytes' next next' b n h = subst (λ (z : List ℕ). Inside asked z next') (sym b) (subst (λ (z : List Token). Inside asked bytes z) (sym n) h)

placed_on : (j k : ℕ) (lines bytes : List ℕ) (next : List Token) → placed (drop j (take (j + k) lines)) (drop j (take (j + k) bytes)) ++ (placed (drop (j + k) lines) (drop (j + k) bytes) ++ next) ≡ placed (drop j lines) (drop j bytes) ++ next
placed_on j k lines bytes next =
    let ls = drop j lines in
    let bs = drop j bytes in
    let rest = placed (drop (j + k) lines) (drop (j + k) bytes) in
    ap (λ (z : List ℕ). placed z (drop j (take (j + k) bytes)) ++ (rest ++ next)) (drop-take j k lines)
    ∙ ap (λ (z : List ℕ). placed (take k ls) z ++ (rest ++ next)) (drop-take j k bytes)
    ∙ sym (append_assoc (placed (take k ls) (take k bs)) rest next)
    ∙ ap (λ (z : List ℕ). (placed (take k ls) (take k bs) ++ placed z (drop (j + k) bytes)) ++ next) (sym (drop-drop k j lines))
    ∙ ap (λ (z : List ℕ). (placed (take k ls) (take k bs) ++ placed (drop k ls) z) ++ next) (sym (drop-drop k j bytes))
    ∙ ap (λ (z : List Token). z ++ next) (sym (placed_split k ls bs))

placed_rest : (j m : ℕ) (lines bytes : List ℕ) (next : List Token) → j ≤ m → placed (drop j (take m lines)) (drop j (take m bytes)) ++ (placed (drop m lines) (drop m bytes) ++ next) ≡ placed (drop j lines) (drop j bytes) ++ next
placed_rest j m lines bytes next le =
    let is : j + (m - j) ≡ m = omega (arith, le) in
    subst (λ (k : ℕ). placed (drop j (take k lines)) (drop j (take k bytes)) ++ (placed (drop k lines) (drop k bytes) ++ next) ≡ placed (drop j lines) (drop j bytes) ++ next) is (placed_on j (m - j) lines bytes next)

-- the first bytes of them
pub joined_take : (asked : Option Kind) (lines bytes : List ℕ) (next : List Token) (m : ℕ) → m ≤ length bytes → AreJoined asked lines bytes next → AreJoined asked (take m lines) (take m bytes) (placed (drop m lines) (drop m bytes) ++ next)
joined_take asked lines bytes next m le h = λ i lt other.
    let less : i + 1 < m = omega (arith, lt, length-take-le m bytes le) in
    let first : slice_index (take m lines) i ≡ slice_index lines i = get_or-take m lines i 0 (omega (arith, less)) in
    let second : slice_index (take m lines) (i + 1) ≡ slice_index lines (i + 1) = get_or-take m lines (i + 1) 0 less in
    inside_at asked (take (i + 1) bytes) (take (i + 1) (take m bytes)) (placed (drop (i + 1) lines) (drop (i + 1) bytes) ++ next) _ (take-take (i + 1) m bytes (omega (arith, less))) (placed_rest (i + 1) m lines bytes next (omega (arith, less))) (h i (omega (arith, less, le)) (λ e. other (first ∙ e ∙ sym second)))

-- what is left of them once an item ended after what was held, or all are gone
pub ready_drop : (last : Bool) (asked : Option Kind) (lines bytes : List ℕ) (next : List Token) (n : ℕ) → (r : Ready last asked lines bytes next) → n ≤ length bytes → (r.held < n) ⊎ (n ≡ length bytes) → Ready last asked (drop n lines) (drop n bytes) next
ready_drop last asked lines bytes next n r le which =
    let count = length-drop n bytes in
    let from : r.held ≤ n = elim which [ inl lt ↦ omega (arith, lt) | inr all ↦ omega (arith, all, r.within) ] in
    let one : (i : ℕ) → i + 1 < length (drop n bytes) → slice_index (drop n lines) i ≡ slice_index (drop n lines) (i + 1) = λ i lt.
    get_or-drop n lines i 0
    ∙ r.one (n + i) (omega (arith, from)) (omega (arith, lt, count))
    ∙ ap (λ (k : ℕ). slice_index lines k) (omega arith)
    ∙ sym (get_or-drop n lines (i + 1) 0) in
    record {
      held = 0;
      within = omega arith;
      few = omega (arith, three_awaited (kind_of asked []) []);
      one = λ i from lt. one i lt;
      joined = λ i lt other. absurd (other (one i lt));
      past = λ some. subst (λ (k : ℕ). IsPast k next) (ap (λ (k : ℕ). slice_index lines k) (omega (arith, some, count)) ∙ sym (get_or-drop n lines (length (drop n bytes) - 1) 0)) (r.past (omega (arith, some, count)));
      all = λ is. elim which [ inl lt ↦ absurd (omega (arith, lt, r.all is, le)) | inr all ↦ omega (arith, all, count) ];
      ends = λ is some. elim which [ inl lt ↦ absurd (omega (arith, lt, r.all is, le)) | inr all ↦ absurd (omega (arith, all, count, some)) ];
    }

-- ---- Bytes of a line more.

module _ (asked : Option Kind) (lines held : List ℕ) (n : ℕ) (bytes : List ℕ) (next : List Token) (even : length lines ≡ length held) (some : 0 < length bytes) (h : Held asked lines held (map (of_byte n) bytes ++ next)) (uncut : IsCut asked held bytes → ⊥) (comes : Comes Hex n next) where
  abbrev all_lines : List ℕ
  all_lines = lines ++ replicate (length bytes) n

  abbrev all_bytes : List ℕ
  all_bytes = held ++ bytes

  line_at : (i : ℕ) → length held ≤ i → i < length all_bytes → slice_index all_lines i ≡ n
  line_at i le lt =
      get_or-append_right lines (replicate (length bytes) n) (length held) i 0 even le
      ∙ get_or-replicate (length bytes) (i - length held) n 0 (omega (arith, le, lt, length-append held bytes))

  one_line : (i : ℕ) → length held ≤ i → i + 1 < length all_bytes → slice_index all_lines i ≡ slice_index all_lines (i + 1)
  one_line i le lt = line_at i le (omega (arith, lt)) ∙ sym (line_at (i + 1) (omega (arith, le)) lt)

  follows : (j : ℕ) → j ≤ length held → placed (drop j all_lines) (drop j all_bytes) ++ next ≡ placed (drop j lines) (drop j held) ++ (map (of_byte n) bytes ++ next)
  follows j le =
      let ls = drop j lines in
      let bs = drop j held in
      ap (λ (z : List ℕ). placed z (drop j all_bytes) ++ next) (drop-append-le j lines (replicate (length bytes) n) (omega (arith, le, even)))
      ∙ ap (λ (z : List ℕ). placed (ls ++ replicate (length bytes) n) z ++ next) (drop-append-le j held bytes le)
      ∙ ap (λ (z : List Token). z ++ next) (placed_both ls bs bytes n (omega (arith, length-drop j lines, length-drop j held, even)))
      ∙ append_assoc (placed ls bs) (map (of_byte n) bytes) next

  within : (i : ℕ) → i + 1 < length held → (slice_index all_lines i ≡ slice_index all_lines (i + 1) → ⊥) → Inside asked (take (i + 1) all_bytes) (placed (drop (i + 1) all_lines) (drop (i + 1) all_bytes) ++ next)
  within i lt other =
      let first : slice_index all_lines i ≡ slice_index lines i = get_or_append_left lines (replicate (length bytes) n) 0 i (omega (arith, lt, even)) in
      let second : slice_index all_lines (i + 1) ≡ slice_index lines (i + 1) = get_or_append_left lines (replicate (length bytes) n) 0 (i + 1) (omega (arith, lt, even)) in
      inside_at asked (take (i + 1) held) _ _ _ (take-append-le (i + 1) held bytes (omega (arith, lt))) (follows (i + 1) (omega (arith, lt))) (h.joined i lt (λ e. other (first ∙ e ∙ sym second)))

  -- between those that were held and the line
  seam : (j : ℕ) → j ≡ length held → Inside asked (take j all_bytes) (placed (drop j all_lines) (drop j all_bytes) ++ next)
  seam j e =
      let gone : placed (drop j lines) (drop j held) ≡ [] = ap (λ (z : List ℕ). placed (drop j lines) z) (drop_all j held (omega (arith, e))) ∙ placed_none (drop j lines) in
      let line = line_first n bytes next some (past_comes n next comes) in
      inside_at asked held _ (map (of_byte n) bytes ++ next) _ (take_at held bytes j (sym e)) (follows j (omega (arith, e)) ∙ ap (λ (z : List Token). z ++ (map (of_byte n) bytes ++ next)) gone) (h.few, λ cut. uncut (subst (λ (z : List ℕ). IsCut asked held z) line cut))

  both_joined : AreJoined asked all_lines all_bytes next
  both_joined = λ i lt other. elim (cases_lt (length held) (i + 1)) [
    | inl more ↦ absurd (other (one_line i (omega (arith, more)) lt))
    | inr le ↦ elim (cases_lt (i + 1) (length held)) [ inl less ↦ within i less other | inr ge ↦ seam (i + 1) (omega (arith, le, ge)) ]
  ]

  pub ready_more : Ready false asked all_lines all_bytes next
  ready_more =
      let count = length-append held bytes in
      record {
        held = length held;
        within = omega (arith, count);
        few = subst (λ (z : List ℕ). AreFew asked z) (sym (take_at held bytes (length held) refl)) h.few;
        one = one_line;
        joined = both_joined;
        past = λ any. subst (λ (k : ℕ). IsPast k next) (sym (line_at (length all_bytes - 1) (omega (arith, count, some)) (omega (arith, count, some)))) (past_comes n next comes);
        all = λ is. absurd (false≢true is);
        ends = λ is. absurd (false≢true is);
      }

-- ---- A part.

ends_there : (last : Bool) (asked : Option Kind) (kind : Kind) (lines bytes : List ℕ) (next : List Token) → Ready last asked lines bytes next → (last ≡ false → awaited kind bytes ≤ length bytes) → 0 < length bytes → length bytes < awaited kind bytes → EndsBefore asked bytes next
ends_there true asked kind lines bytes next r whole some few = r.ends refl some
ends_there false asked kind lines bytes next r whole some few = absurd (omega (arith, few, whole refl))

-- bytes that are refused or unfinished are fewer than the item has, if it goes on
goes_on : (kind : Kind) (number : ℕ) (bytes : List ℕ) (fault : RunFault) → IsBroken kind number bytes fault → GoesOn fault kind bytes → length bytes < awaited kind bytes
goes_on kind number bytes fault (inl (i, x, is, refuses)) goes = subst (λ (f : RunFault). GoesOn f kind bytes) is goes
goes_on kind number bytes fault (inr (is, viable, none)) goes = open_few kind bytes (viable, none)

pub over_there : (last : Bool) (asked : Option Kind) (kind : Kind) (number : ℕ) (lines bytes : List ℕ) (fault : RunFault) (next : List Token) → Ready last asked lines bytes next → (last ≡ false → awaited kind bytes ≤ length bytes) → 0 < length bytes → IsBroken kind number bytes fault → AreJoined asked lines bytes next × IsOver asked lines bytes (GoesOn fault kind bytes) next
over_there last asked kind number lines bytes fault next r whole some broken =
    (r.joined, (r.past some, (λ goes. ends_there last asked kind lines bytes next r whole some (goes_on kind number bytes fault broken goes))))

-- and what is left after it
pub rest_ready : (last : Bool) (asked : Option Kind) (kind : Kind) (number : ℕ) (lines bytes : List ℕ) (n : ℕ) (fault : Option RunFault) (next : List Token) → kind ≡ kind_of asked bytes → ItemPart kind number bytes n fault → Ready last asked lines bytes next → Ready last asked (drop n lines) (drop n bytes) next
rest_ready last asked kind number lines bytes n None next kind_is (positive, within, is) r =
    ready_drop last asked lines bytes next n r within (inl (held_item asked bytes r.held n r.within r.few (subst (λ (z : Kind). IsFront z bytes n) kind_is (within, is.0, is.1))))
rest_ready last asked kind number lines bytes n (Some fault) next kind_is (all, is) r = ready_drop last asked lines bytes next n r (omega (arith, all)) (inr all)

-- nothing is left before what follows
pub none_left : (lines bytes : List ℕ) (n : ℕ) (next : List Token) → n ≡ length bytes → placed (drop n lines) (drop n bytes) ++ next ≡ next
none_left lines bytes n next all = ap (λ (z : List ℕ). placed (drop n lines) z ++ next) (drop_all n bytes (omega (arith, all))) ∙ ap (λ (z : List Token). z ++ next) (placed_none (drop n lines))
