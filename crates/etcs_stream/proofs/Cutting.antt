-- A text is lines: all of them are good, or one is the first that is bad.
use Rattle.std.proofs.Common.{◌≡◌, ℕ, zero, suc, ◌+◌, ◌-◌, ◌≤◌, Bool, true, false, eqb, List, [], ◌∷◌, ◌++◌, length, Option, Some, None, refl, sym, ap, subst, ◌∙◌, arith, append_assoc, length-append, inl, inr}
use Rattle.std.specs.Prelude.{◌⊎◌}
use Rattle.std.proofs.lemmas.Bool.{eqb-true}
use Rattle.std.proofs.lemmas.Bool.Decides.{nat_tests}
use Rattle.std.proofs.lemmas.Grind.{flat_map-append}
use Rattle.std.proofs.lemmas.List.Elements.{All-nil, All-cons}
use Rattle.etcs_runs.specs.Lines.{IsLine, strip_cr, lines_text}
use Rattle.etcs_runs.proofs.LineTexts.{lines_text-append, one_line}
use Rattle.etcs_stream.specs.Lines.{bad_place, line_bytes, lines_bytes, AreGood, IsHexText}
use Rattle.etcs_stream.specs.Inputs.{IsBad}

pub AreGood-append : (xs ys : List (List ℕ)) → AreGood xs → AreGood ys → AreGood (xs ++ ys)
AreGood-append [] ys h g = g
AreGood-append (x ∷ xs) ys h g = (h.0, AreGood-append xs ys h.1 g)

pub lines_bytes-append : (xs ys : List (List ℕ)) → lines_bytes (xs ++ ys) ≡ lines_bytes xs ++ lines_bytes ys
lines_bytes-append xs ys = flat_map-append (λ line. line_bytes (strip_cr line)) xs ys

no_lf : (x : ℕ) → eqb x 10 ≡ false → x ≡ 10 → ⊥
no_lf x h = grind (arith, nat_tests)

-- a line at the front, and what is after its LF
abbrev IsSplit : List ℕ → Type 0
IsSplit text = (line : List ℕ) × (beyond : List ℕ) × IsLine line × (text ≡ line ++ 10 ∷ beyond)

split_by : (x : ℕ) (xs : List ℕ) (b : Bool) → eqb x 10 ≡ b → IsLine xs ⊎ IsSplit xs → IsLine (x ∷ xs) ⊎ IsSplit (x ∷ xs)
split_by x xs true e h = inr ([], xs, All-nil (λ c. c ≡ 10 → ⊥), ap (λ z. z ∷ xs) (eqb-true x 10 e))
split_by x xs false e (inl l) = inl (All-cons (λ c. c ≡ 10 → ⊥) x xs (no_lf x e) l)
split_by x xs false e (inr (line, beyond, l, is)) =
    inr (x ∷ line, beyond, All-cons (λ c. c ≡ 10 → ⊥) x line (no_lf x e) l, ap (λ (z : List ℕ). x ∷ z) is)

-- the text up to its first LF
pub first_lf : (text : List ℕ) → IsLine text ⊎ ((line : List ℕ) × (beyond : List ℕ) × IsLine line × (text ≡ line ++ 10 ∷ beyond))
first_lf [] = inl (All-nil (λ c. c ≡ 10 → ⊥))
first_lf (x ∷ xs) = split_by x xs (eqb x 10) refl (first_lf xs)

-- the lines of a text are good and say these bytes, or those before the first bad one do
abbrev pub Says : List ℕ → List ℕ → Type 0
Says text bytes = IsHexText text bytes ⊎ ((line : ℕ) × (place : ℕ) × IsBad text bytes line place)

text_after : (lines more : List (List ℕ)) (last text : List ℕ) → text ≡ lines_text more ++ last → lines_text lines ++ text ≡ lines_text (lines ++ more) ++ last
text_after lines more last text e =
    ap (λ (z : List ℕ). lines_text lines ++ z) e
    ∙ sym (append_assoc (lines_text lines) (lines_text more) last)
    ∙ ap (λ (z : List ℕ). z ++ last) (sym (lines_text-append lines more))

bytes_after : (lines more : List (List ℕ)) (bytes : List ℕ) → bytes ≡ lines_bytes more → lines_bytes lines ++ bytes ≡ lines_bytes (lines ++ more)
bytes_after lines more bytes e = ap (λ (z : List ℕ). lines_bytes lines ++ z) e ∙ sym (lines_bytes-append lines more)

module _ (lines : List (List ℕ)) (good : AreGood lines) (text bytes : List ℕ) where
  hex_after : IsHexText text bytes → IsHexText (lines_text lines ++ text) (lines_bytes lines ++ bytes)
  hex_after h = record {
    lines = lines ++ h.lines;
    last = h.last;
    text_is = text_after lines h.lines h.last text h.text_is;
    lines_good = AreGood-append lines h.lines good h.lines_good;
    last_good = h.last_good;
    bytes_are =
        ap (λ (z : List ℕ). lines_bytes lines ++ z) h.bytes_are
        ∙ sym (append_assoc (lines_bytes lines) (lines_bytes h.lines) (line_bytes h.last))
        ∙ ap (λ (z : List ℕ). z ++ line_bytes h.last) (sym (lines_bytes-append lines h.lines));
  }

  bad_after : (line place : ℕ) → IsBad text bytes line place → IsBad (lines_text lines ++ text) (lines_bytes lines ++ bytes) (length lines + line) place
  bad_after line place h = record {
    lines = lines ++ h.lines;
    bad = h.bad;
    beyond = h.beyond;
    lines_good = AreGood-append lines h.lines good h.lines_good;
    is_line = h.is_line;
    line_is = omega (arith, h.line_is, length-append lines h.lines);
    bytes_are = bytes_after lines h.lines bytes h.bytes_are;
    text_is = elim h.text_is [
      | inl p ↦ inl (text_after lines h.lines (h.bad ++ 10 ∷ h.beyond) text p.0, p.1)
      | inr p ↦ inr (text_after lines h.lines h.bad text p.0, p.1)
    ];
  }

  pub says_after : Says text bytes → Says (lines_text lines ++ text) (lines_bytes lines ++ bytes)
  says_after (inl h) = inl (hex_after h)
  says_after (inr (line, place, h)) = inr (length lines + line, place, bad_after line place h)

-- a line that has no LF
last_says : (text : List ℕ) (o : Option ℕ) → IsLine text → bad_place text ≡ o → (bytes : List ℕ) × Says text bytes
last_says text None l e = (line_bytes text, inl (record { lines = []; last = text; text_is = refl; lines_good = tt; last_good = e; bytes_are = refl }))
last_says text (Some place) l e =
    ([], inr (1, place, record { lines = []; bad = text; beyond = []; lines_good = tt; is_line = l; line_is = refl; bytes_are = refl; text_is = inr (refl, e) }))

-- a line that has one
line_says : (line beyond : List ℕ) (o : Option ℕ) → IsLine line → bad_place (strip_cr line) ≡ o → ((bytes : List ℕ) × Says beyond bytes) → (bytes : List ℕ) × Says (line ++ 10 ∷ beyond) bytes
line_says line beyond None l e (bytes, h) =
    let both = says_after (line ∷ []) (e, tt) beyond bytes h in
    (lines_bytes (line ∷ []) ++ bytes, subst (λ z. Says z (lines_bytes (line ∷ []) ++ bytes)) (one_line line beyond) both)
line_says line beyond (Some place) l e h =
    ([], inr (1, place, record { lines = []; bad = line; beyond = beyond; lines_good = tt; is_line = l; line_is = refl; bytes_are = refl; text_is = inl (refl, e) }))

cut : (n : ℕ) (text : List ℕ) → length text ≤ n → (bytes : List ℕ) × Says text bytes
cut zero [] h = last_says [] (bad_place []) (All-nil (λ c. c ≡ 10 → ⊥)) refl
cut zero (x ∷ xs) h = absurd (omega arith)
cut (suc n) text h = elim (first_lf text) [
  | inl l ↦ last_says text (bad_place text) l refl
  | inr (line, beyond, l, e) ↦
      let shorter : length beyond ≤ n = omega (arith, ap length e, length-append line (10 ∷ beyond)) in
      let (bytes, s) = line_says line beyond (bad_place (strip_cr line)) l refl (cut n beyond shorter) in
      (bytes, subst (λ z. Says z bytes) (sym e) s)
]

pub cut_text : (text : List ℕ) → (bytes : List ℕ) × Says text bytes
cut_text text = cut (length text) text (omega arith)
