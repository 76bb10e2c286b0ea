-- A text is lines in one way.
use Rattle.std.proofs.Common.{◌≡◌, ℕ, ◌+◌, ◌-◌, Bool, true, false, cond, eqb, ltb, List, [], ◌∷◌, ◌++◌, length, take, get_or, Option, Some, None, refl, sym, ap, subst, ◌∙◌, arith, append_assoc, inl, inr}
use Rattle.std.specs.Prelude.{◌⊎◌, ◌&&◌, slice_index, All}
use Rattle.std.specs.Io.BufRead.{ends_with_byte}
use Rattle.std.proofs.lemmas.Bool.{cases_lt, eqb-true}
use Rattle.std.proofs.lemmas.List.{get_or-take, get_or_default, length-take-le, append-nil}
use Rattle.std.proofs.lemmas.List.Elements.{All-nil, All-cons, All-head, All-tail}
use Rattle.hex.specs.Hex.{is_hex_digit}
use Rattle.etcs_runs.specs.Lines.{IsLine, strip_cr, lines_text}
use Rattle.etcs_runs.proofs.LineTexts.{cut_lf, first_of, head_line, tail_line}
use Rattle.etcs_stream.specs.Lines.{bad_place, line_bytes, lines_bytes, AreGood, IsHexText}
use Rattle.etcs_stream.specs.Inputs.{IsBad, SaysSoFar, SaysFirst}
use Rattle.etcs_runs.specs.declared.form.Form.TheVariants.{Hex}
use Rattle.etcs_stream.proofs.GoodLines.{good_digits}
use Rattle.etcs_stream.proofs.Cutting.{lines_bytes-append}

-- ---- A good line has no LF.

no_digit : (c : ℕ) → c ≡ 10 → is_hex_digit c ≡ true → ⊥
no_digit c e h = let t : is_hex_digit 10 ≡ true = subst (λ (n : ℕ). is_hex_digit n ≡ true) e h in absurd cc

pub good_last : (line : List ℕ) → bad_place line ≡ None → IsLine line
good_last line h = λ k d lt e. no_digit (get_or line k d) e (good_digits line h k d lt)

pub both_true : (a b : Bool) → a && b ≡ true → (a ≡ true) × (b ≡ true)
both_true true b h = (refl, h)
both_true false b h = absurd cc

stripped : (line : List ℕ) (b : Bool) → ends_with_byte 13 line ≡ b → IsLine (cond b (take (length line - 1) line) line) → IsLine line
stripped line false e h = h
stripped line true e h = λ k d lt is.
    let tests = both_true (ltb 0 (length line)) (eqb (slice_index line (length line - 1)) 13) e in
    let last : slice_index line (length line - 1) ≡ 13 = eqb-true _ 13 tests.1 in
    elim (cases_lt k (length line - 1)) [
      | inl below ↦
          let short : length (take (length line - 1) line) ≡ length line - 1 = length-take-le (length line - 1) line (omega arith) in
          h k d (omega (arith, short)) (get_or-take (length line - 1) line k d below ∙ is)
      | inr above ↦
          let here : k ≡ length line - 1 = omega arith in
          let cr : get_or line k d ≡ 13 = ap (λ n. get_or line n d) here ∙ get_or_default line (length line - 1) d 0 (omega arith) ∙ last in
          absurd (omega (arith, cr, is))
    ]

pub good_line : (line : List ℕ) → bad_place (strip_cr line) ≡ None → IsLine line
good_line line h = stripped line (ends_with_byte 13 line) refl (good_last (strip_cr line) h)

-- ---- Cut at the first LF.

pub has_lf : (x y u : List ℕ) → IsLine x → x ≡ y ++ 10 ∷ u → ⊥
has_lf [] [] u h e = absurd cc
has_lf [] (d ∷ y) u h e = absurd cc
has_lf (c ∷ x) [] u h e = let f : c ≡ 10 = cc in head_line c x h f
has_lf (c ∷ x) (d ∷ y) u h e = let tails : x ≡ y ++ 10 ∷ u = cc in has_lf x y u (tail_line c x h) tails

-- ---- Lines, and what is after the last of them.

-- the lines of one are the first of the other
pub record Longer (lines lines' : List (List ℕ)) (t t' : List ℕ) : Type 0 where
  pub more : List (List ℕ)
  pub lines_are : lines' ≡ lines ++ more
  pub text_is : t ≡ lines_text more ++ t'
  pub are_lines : All IsLine more

longer_after : (line line' : List ℕ) (lines lines' : List (List ℕ)) (t t' : List ℕ) → line ≡ line' → Longer lines lines' t t' → Longer (line ∷ lines) (line' ∷ lines') t t'
longer_after line line' lines lines' t t' same l = record {
  more = l.more;
  lines_are = let tails = l.lines_are in cc;
  text_is = l.text_is;
  are_lines = l.are_lines;
}

-- of two splits of one text
pub fronts : (lines lines' : List (List ℕ)) (t t' : List ℕ) → All IsLine lines → All IsLine lines' → lines_text lines ++ t ≡ lines_text lines' ++ t' → Longer lines lines' t t' ⊎ Longer lines' lines t' t
fronts [] lines' t t' h h' e = inl (record { more = lines'; lines_are = refl; text_is = e; are_lines = h' })
fronts (line ∷ lines) [] t t' h h' e = inr (record { more = line ∷ lines; lines_are = refl; text_is = sym e; are_lines = h })
fronts (line ∷ lines) (line' ∷ lines') t t' h h' e =
    let same = cut_lf line line' (lines_text lines ++ t) (lines_text lines' ++ t') (All-head IsLine line lines h) (All-head IsLine line' lines' h') (sym (first_of line lines t) ∙ e ∙ first_of line' lines' t') in
    elim (fronts lines lines' t t' (All-tail IsLine line lines h) (All-tail IsLine line' lines' h') same.1) [
      | inl l ↦ inl (longer_after line line' lines lines' t t' same.0 l)
      | inr l ↦ inr (longer_after line' line lines' lines t' t (sym same.0) l)
    ]

-- ---- Good lines, and what is after the last of them.

-- it doesn't begin with one more
NoMore : List ℕ → Type 0
NoMore text = (line beyond : List ℕ) → bad_place (strip_cr line) ≡ None → text ≡ line ++ 10 ∷ beyond → ⊥

unfinished : (text : List ℕ) → IsLine text → NoMore text
unfolding NoMore
unfinished text h line beyond good e = has_lf text line beyond h e

bad_next : (bad beyond : List ℕ) (place : ℕ) → IsLine bad → bad_place (strip_cr bad) ≡ Some place → NoMore (bad ++ 10 ∷ beyond)
unfolding NoMore
bad_next bad beyond place h is line rest good e =
    let same = cut_lf bad line beyond rest h (good_line line good) e in
    let also : bad_place (strip_cr bad) ≡ None = ap (λ (z : List ℕ). bad_place (strip_cr z)) same.0 ∙ good in
    absurd cc

no_lines : (more : List (List ℕ)) (t t' : List ℕ) → AreGood more → NoMore t → t ≡ lines_text more ++ t' → more ≡ []
unfolding NoMore
no_lines [] t t' g last e = refl
no_lines (line ∷ more) t t' g last e = absurd (last line (lines_text more ++ t') g.0 (e ∙ first_of line more t'))

all_lines : (lines : List (List ℕ)) → AreGood lines → All IsLine lines
all_lines [] g = All-nil IsLine
all_lines (line ∷ lines) g = All-cons IsLine line lines (good_line line g.0) (all_lines lines g.1)

good_after : (lines more : List (List ℕ)) → AreGood (lines ++ more) → AreGood more
good_after [] more g = g
good_after (line ∷ lines) more g = good_after lines more g.1

-- two splits into good lines, of which one ends at the last of them
same_split : (lines lines' : List (List ℕ)) (t t' : List ℕ) → AreGood lines' → NoMore t → Longer lines lines' t t' → (lines ≡ lines') × (t ≡ t')
same_split lines lines' t t' g last l =
    let none = no_lines l.more t t' (good_after lines l.more (subst AreGood l.lines_are g)) last l.text_is in (
      sym (l.lines_are ∙ ap (λ (z : List (List ℕ)). lines ++ z) none ∙ append-nil lines),
      l.text_is ∙ ap (λ (z : List (List ℕ)). lines_text z ++ t') none,
    )

-- the lines of one are the first of the other, which ends at the last of them
longer : (lines lines' : List (List ℕ)) (t t' : List ℕ) → AreGood lines → AreGood lines' → NoMore t' → lines_text lines ++ t ≡ lines_text lines' ++ t' → Longer lines lines' t t'
longer lines lines' t t' g g' last e = elim (fronts lines lines' t t' (all_lines lines g) (all_lines lines' g') e) [
  | inl l ↦ l
  | inr l ↦
      let same = same_split lines' lines t' t g last l in
      record { more = []; lines_are = same.0 ∙ sym (append-nil lines); text_is = sym same.1; are_lines = All-nil IsLine }
]

one_way : (lines lines' : List (List ℕ)) (t t' : List ℕ) → AreGood lines → AreGood lines' → NoMore t → NoMore t' → lines_text lines ++ t ≡ lines_text lines' ++ t' → (lines ≡ lines') × (t ≡ t')
one_way lines lines' t t' g g' last last' e = same_split lines lines' t t' g' last (longer lines lines' t t' g g' last' e)

-- ---- What a text says.

last_of : (text bytes : List ℕ) (h : IsHexText text bytes) → NoMore h.last
last_of text bytes h = unfinished h.last (good_last h.last h.last_good)

-- the rest from the first bad line on
record BadRest (text bytes : List ℕ) (line place : ℕ) : Type 0 where
  lines : List (List ℕ)
  bad : List ℕ
  rest : List ℕ
  good : AreGood lines
  is_line : IsLine bad
  no_more : NoMore rest
  text_is : text ≡ lines_text lines ++ rest
  line_is : line ≡ length lines + 1
  bytes_are : bytes ≡ lines_bytes lines
  how : ((beyond : List ℕ) × (rest ≡ bad ++ 10 ∷ beyond) × (bad_place (strip_cr bad) ≡ Some place)) ⊎ ((rest ≡ bad) × (bad_place bad ≡ Some place))

bad_rest : (text bytes : List ℕ) (line place : ℕ) → IsBad text bytes line place → BadRest text bytes line place
bad_rest text bytes line place h = elim h.text_is [
  | inl p ↦ record { lines = h.lines; bad = h.bad; rest = h.bad ++ 10 ∷ h.beyond; good = h.lines_good; is_line = h.is_line; no_more = bad_next h.bad h.beyond place h.is_line p.1; text_is = p.0; line_is = h.line_is; bytes_are = h.bytes_are; how = inl (h.beyond, refl, p.1) }
  | inr p ↦ record { lines = h.lines; bad = h.bad; rest = h.bad; good = h.lines_good; is_line = h.is_line; no_more = unfinished h.bad h.is_line; text_is = p.0; line_is = h.line_is; bytes_are = h.bytes_are; how = inr (refl, p.1) }
]

pub one_hex : (text bytes bytes' : List ℕ) → IsHexText text bytes → IsHexText text bytes' → bytes ≡ bytes'
one_hex text bytes bytes' h k =
    let same = one_way h.lines k.lines h.last k.last h.lines_good k.lines_good (last_of text bytes h) (last_of text bytes' k) (sym h.text_is ∙ k.text_is) in
    h.bytes_are ∙ ap (λ (z : List (List ℕ)). lines_bytes z ++ line_bytes h.last) same.0 ∙ ap (λ (z : List ℕ). lines_bytes k.lines ++ line_bytes z) same.1 ∙ sym k.bytes_are

-- the same place of the same rest
one_place : (bad bad' rest rest' : List ℕ) (p q : ℕ) → rest ≡ rest' → IsLine bad → IsLine bad'
    → ((beyond : List ℕ) × (rest ≡ bad ++ 10 ∷ beyond) × (bad_place (strip_cr bad) ≡ Some p)) ⊎ ((rest ≡ bad) × (bad_place bad ≡ Some p))
    → ((beyond : List ℕ) × (rest' ≡ bad' ++ 10 ∷ beyond) × (bad_place (strip_cr bad') ≡ Some q)) ⊎ ((rest' ≡ bad') × (bad_place bad' ≡ Some q)) → p ≡ q
one_place bad bad' rest rest' p q e l l' (inl (b, is, at)) (inl (b', is', at')) =
    let same = cut_lf bad bad' b b' l l' (sym is ∙ e ∙ is') in
    let both : ◌≡◌ {A = Option ℕ} (Some p) (Some q) = sym at ∙ ap (λ (z : List ℕ). bad_place (strip_cr z)) same.0 ∙ at' in
    cc
one_place bad bad' rest rest' p q e l l' (inl (b, is, at)) (inr (is', at')) = absurd (has_lf bad' bad b l' (sym is' ∙ sym e ∙ is))
one_place bad bad' rest rest' p q e l l' (inr (is, at)) (inl (b', is', at')) = absurd (has_lf bad bad' b' l (sym is ∙ e ∙ is'))
one_place bad bad' rest rest' p q e l l' (inr (is, at)) (inr (is', at')) =
    let both : ◌≡◌ {A = Option ℕ} (Some p) (Some q) = sym at ∙ ap bad_place (sym is ∙ e ∙ is') ∙ at' in
    cc

pub one_bad : (text bytes bytes' : List ℕ) (line line' place place' : ℕ) → IsBad text bytes line place → IsBad text bytes' line' place' → (bytes ≡ bytes') × (line ≡ line') × (place ≡ place')
one_bad text bytes bytes' line line' place place' bad bad' =
    let h = bad_rest text bytes line place bad in
    let k = bad_rest text bytes' line' place' bad' in
    let same = one_way h.lines k.lines h.rest k.rest h.good k.good h.no_more k.no_more (sym h.text_is ∙ k.text_is) in (
      h.bytes_are ∙ ap lines_bytes same.0 ∙ sym k.bytes_are,
      h.line_is ∙ ap (λ (z : List (List ℕ)). length z + 1) same.0 ∙ sym k.line_is,
      one_place h.bad k.bad h.rest k.rest place place' same.1 h.is_line k.is_line h.how k.how,
    )

pub hex_or_bad : (text bytes bytes' : List ℕ) (line place : ℕ) → IsHexText text bytes → IsBad text bytes' line place → ⊥
hex_or_bad text bytes bytes' line place h bad =
    let k = bad_rest text bytes' line place bad in
    let same = one_way h.lines k.lines h.last k.rest h.lines_good k.good (last_of text bytes h) k.no_more (sym h.text_is ∙ k.text_is) in
    elim k.how [
      | inl (b, is, at) ↦ has_lf h.last k.bad b (good_last h.last h.last_good) (same.1 ∙ is)
      | inr (is, at) ↦ let both : ◌≡◌ {A = Option ℕ} None (Some place) = sym h.last_good ∙ ap bad_place (same.1 ∙ is) ∙ at in absurd cc
    ]

-- what is there of a text
pub one_so_far : (text bytes bytes' : List ℕ) → SaysSoFar Hex text bytes → SaysSoFar Hex text bytes' → bytes ≡ bytes'
one_so_far text bytes bytes' h k =
    let same = one_way h.0 k.0 h.1 k.1 h.3 k.3 (unfinished h.1 h.4) (unfinished k.1 k.4) (sym h.2 ∙ k.2) in
    h.5 ∙ ap lines_bytes same.0 ∙ sym k.5

-- a text continues with what some lines at its front say
pub front_hex : (text bytes bytes' : List ℕ) → SaysFirst Hex text bytes → IsHexText text bytes' → (more : List ℕ) × (bytes' ≡ bytes ++ more)
front_hex text bytes bytes' (inl h) k =
    let l = longer h.0 k.lines h.1 k.last h.3 k.lines_good (last_of text bytes' k) (sym h.2 ∙ k.text_is) in (
      lines_bytes l.more ++ line_bytes k.last,
      k.bytes_are
          ∙ ap (λ (z : List (List ℕ)). lines_bytes z ++ line_bytes k.last) l.lines_are
          ∙ ap (λ (z : List ℕ). z ++ line_bytes k.last) (lines_bytes-append h.0 l.more)
          ∙ append_assoc (lines_bytes h.0) (lines_bytes l.more) (line_bytes k.last)
          ∙ ap (λ (z : List ℕ). z ++ (lines_bytes l.more ++ line_bytes k.last)) (sym h.4),
    )
front_hex text bytes bytes' (inr h) k = ([], one_hex text bytes' bytes k h ∙ sym (append-nil bytes))

pub front_bad : (text bytes bytes' : List ℕ) (line place : ℕ) → SaysFirst Hex text bytes → IsBad text bytes' line place → (more : List ℕ) × (bytes' ≡ bytes ++ more)
front_bad text bytes bytes' line place (inl h) bad =
    let k = bad_rest text bytes' line place bad in
    let l = longer h.0 k.lines h.1 k.rest h.3 k.good k.no_more (sym h.2 ∙ k.text_is) in (
      lines_bytes l.more,
      k.bytes_are
          ∙ ap lines_bytes l.lines_are
          ∙ lines_bytes-append h.0 l.more
          ∙ ap (λ (z : List ℕ). z ++ lines_bytes l.more) (sym h.4),
    )
front_bad text bytes bytes' line place (inr h) bad = absurd (hex_or_bad text bytes bytes' line place h bad)
