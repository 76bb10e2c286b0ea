-- Lines, piece by piece, whatever takes them.
use Rattle.std.proofs.Common.{◌≡◌, ℕ, ◌+◌, ◌<◌, ◌≤◌, List, [], ◌∷◌, ◌++◌, length, Result, Ok, Err, refl, sym, ap, subst, ◌∙◌, arith, append_assoc, length-append, inl, inr}
use Rattle.std.specs.Prelude.{All, OnOk, IfErr}
use Rattle.std.proofs.lemmas.List.{append-nil}
use Rattle.std.proofs.lemmas.List.Elements.{All-append, All-head, All-nil}
use Rattle.etcs_runs.specs.declared.fault.RunFault.{RunFault}
use Rattle.etcs_runs.specs.declared.fault.RunFault.TheVariants.{Memory}
use Rattle.etcs_runs.specs.Lines.{IsLine, lines_text}
use Rattle.etcs_runs.specs.Cutting.{IsKept, LinesStand}
use Rattle.etcs_runs.specs.Promises.{Promises, Sound}
use Rattle.etcs_runs.proofs.LineTexts.{cut_given, cut_lf, first_of, lines_few, lines_text-append, one_line}

-- ---- Answers.

pub then_ok : {T A B : Type 0} (r : Result T RunFault) → (A → B) → OnOk r A → OnOk r B
then_ok (Ok u) f h = f h
then_ok (Err e) f h = tt

pub then_err : {T : Type 0} (r : Result T RunFault) (A B : RunFault → Type 0) → ((e : RunFault) → A e → B e) → IfErr r A → IfErr r B
then_err (Ok u) A B f h = tt
then_err (Err e) A B f h = f e h

-- ---- A text that continues.

pub longer_text : (front rest given more : List ℕ) → given ≡ front ++ rest → given ++ more ≡ front ++ (rest ++ more)
longer_text front rest given more e = ap (λ (z : List ℕ). z ++ more) e ∙ append_assoc front rest more

-- no text was written since
pub none_output : (P : List ℕ → Type 0) (output t : List ℕ) → t ≡ [] → P output → P (output ++ t)
none_output P output t e h = subst P (sym (ap (λ (z : List ℕ). output ++ z) e ∙ append-nil output)) h

-- memory may be refused after the lines that were taken
pub memory_stops : {T : Type 0} (p : Promises T) → Sound p → (lines : List (List ℕ)) (bytes output : List ℕ) → p.Outputs (lines_text lines ++ []) output → p.Stops (lines_text lines ++ bytes) output Memory
memory_stops p sound lines bytes output h =
    subst (λ (z : List ℕ). p.Stops z output Memory) (append_assoc (lines_text lines) [] bytes) (sound.starves (lines_text lines ++ []) bytes output h)

-- ---- What is kept of a line.

length-zero : {A : Type 0} (xs : List A) → length xs ≡ 0 → xs ≡ []
length-zero [] h = refl
length-zero (x ∷ xs) h = absurd (omega (arith, h))

-- no line was taken
pub none_taken : (Took : List (List ℕ) → List ℕ → Type 0) (lines taken : List (List ℕ)) (output : List ℕ) → length taken ≡ 0 → Took (lines ++ taken) output → Took lines output
none_taken Took lines taken output none =
    subst (λ (z : List (List ℕ)). Took z output) (ap (λ (z : List (List ℕ)). lines ++ z) (length-zero taken none) ∙ append-nil lines)

-- all that is taken up to the first LF is the line before it
pub one_taken : (raw after beyond : List ℕ) (taken : List (List ℕ)) → IsLine raw → All IsLine taken → raw ++ 10 ∷ after ≡ lines_text taken ++ beyond → length (lines_text taken) ≤ length raw + 1 → 0 < length taken → taken ≡ raw ∷ []
one_taken raw after beyond [] l ls is within some = absurd (omega (arith, some))
one_taken raw after beyond (line ∷ lines) l ls is within some =
    let same = cut_lf raw line after (lines_text lines ++ beyond) l (All-head IsLine line lines ls) (is ∙ first_of line lines beyond) in
    let none : length lines ≡ 0 = omega (arith, within, ap length same.0, lines_few lines, length-append (line ++ 10 ∷ []) (lines_text lines), length-append line (10 ∷ [])) in
    ap (λ (z : List ℕ). z ∷ lines) (sym same.0) ∙ ap (λ (z : List (List ℕ)). raw ∷ z) (length-zero lines none)

module _ {Took : List (List ℕ) → List ℕ → Type 0} {most : ℕ} {begun : List ℕ} {n line : ℕ} {given output : List ℕ} (h : LinesStand Took most begun n line given output) where
  -- there are no more lines than bytes
  pub few_lines : (line ≡ length h.lines) × (length h.lines + n ≤ length given)
  few_lines = (h.line_is, omega (arith, h.n_is, lines_few h.lines, ap length h.given_is, length-append (lines_text h.lines) h.part))

  -- it has no character
  pub no_part : n ≡ 0 → h.part ≡ []
  no_part zero = length-zero h.part (sym h.n_is ∙ zero)

  -- a piece begins with the next line
  pub next_text : n ≡ 0 → (piece : List ℕ) → given ++ piece ≡ lines_text h.lines ++ piece
  next_text zero piece = longer_text (lines_text h.lines) h.part given piece h.given_is ∙ ap (λ (z : List ℕ). lines_text h.lines ++ (z ++ piece)) (no_part zero)

  -- it isn't too long
  pub short_took : n ≤ most + 1 → Took h.lines output
  short_took short = elim h.kept [
    | inl k ↦ k.2
    | inr k ↦ absurd (omega (arith, k.0, h.n_is, short))
  ]

  pub short_begun : n ≤ most + 1 → begun ≡ h.part
  short_begun short = elim h.kept [
    | inl k ↦ k.1
    | inr k ↦ absurd (omega (arith, k.0, h.n_is, short))
  ]

  -- it is
  long_took : most + 1 < n → (rest : List ℕ) → IsLine rest → Took (h.lines ++ (h.part ++ rest) ∷ []) output
  long_took long = elim h.kept [
    | inl k ↦ absurd (omega (arith, k.0, h.n_is, long))
    | inr k ↦ k.1
  ]

  pub whole_took : most + 1 < n → Took (h.lines ++ h.part ∷ []) output
  whole_took long = subst (λ (z : List ℕ). Took (h.lines ++ z ∷ []) output) (append-nil h.part) (long_took long [] (All-nil (λ c. c ≡ 10 → ⊥)))

  -- lines of a piece are taken
  pub lines_taken : (taken : List (List ℕ)) {Took' : List (List ℕ) → List ℕ → Type 0} {most' line' : ℕ} {output' : List ℕ} → n ≡ 0 → line' ≡ line + length taken → Took' (h.lines ++ taken) output' → LinesStand Took' most' begun n line' (given ++ lines_text taken) output'
  lines_taken taken zero at took = record {
    lines = h.lines ++ taken;
    part = [];
    given_is = next_text zero (lines_text taken) ∙ sym (lines_text-append h.lines taken) ∙ sym (append-nil (lines_text (h.lines ++ taken)));
    is_line = All-nil (λ c. c ≡ 10 → ⊥);
    n_is = zero;
    line_is = omega (arith, at, h.line_is, length-append h.lines taken);
    kept = inl (omega arith, short_begun (omega (arith, zero)) ∙ no_part zero, took);
  }

  -- with a part more
  module _ (part : List ℕ) where
    pub more_text : given ++ part ≡ lines_text h.lines ++ (h.part ++ part)
    more_text = longer_text (lines_text h.lines) h.part given part h.given_is

    pub more_line : IsLine part → IsLine (h.part ++ part)
    more_line l = All-append (λ c. c ≡ 10 → ⊥) h.part part h.is_line l

    -- it becomes too long
    pub longer : most + 1 < n + length part → most + 1 < length (h.part ++ part)
    longer long = omega (arith, long, h.n_is, length-append h.part part)

    pub keep_refused : (P : List ℕ → Type 0) (more : List ℕ) → P (lines_text h.lines ++ ((h.part ++ part) ++ more)) → P (given ++ (part ++ more))
    keep_refused P more = subst P (sym (longer_text (lines_text h.lines) (h.part ++ part) (given ++ part) more more_text) ∙ append_assoc given part more)

    continued : {Took' : List (List ℕ) → List ℕ → Type 0} {most' : ℕ} {begun' : List ℕ} {n' : ℕ} {output' : List ℕ} → IsLine part → n' ≡ n + length part → IsKept Took' most' h.lines (h.part ++ part) begun' output' → LinesStand Took' most' begun' n' line (given ++ part) output'
    continued l m kept =
        record { lines = h.lines; part = h.part ++ part; given_is = more_text; is_line = more_line l; n_is = omega (arith, m, h.n_is, length-append h.part part); line_is = h.line_is; kept = kept }

    -- the part is kept
    pub keeps : {begun' : List ℕ} {n' : ℕ} → IsLine part → begun' ≡ begun ++ part → n' ≡ n + length part → n' ≤ most + 1 → LinesStand Took most begun' n' line (given ++ part) output
    keeps l e m short =
        let before : n ≤ most + 1 = omega (arith, m, short) in
        continued l m (inl (omega (arith, m, short, h.n_is, length-append h.part part), e ∙ ap (λ (z : List ℕ). z ++ part) (short_begun before), short_took before))

    -- it is skipped
    pub skips : {begun' : List ℕ} {n' : ℕ} → IsLine part → n' ≡ n + length part → most + 1 < n → LinesStand Took most begun' n' line (given ++ part) output
    skips l m long =
        continued l m (inr (omega (arith, long, h.n_is, length-append h.part part), λ rest r. subst (λ (z : List ℕ). Took (h.lines ++ z ∷ []) output) (sym (append_assoc h.part part rest)) (long_took long (part ++ rest) (All-append (λ c. c ≡ 10 → ⊥) part rest l r))))

    -- the line was reported
    pub reported : {Took' : List (List ℕ) → List ℕ → Type 0} {most' : ℕ} {begun' : List ℕ} {n' : ℕ} {output' : List ℕ} → IsLine part → most' ≡ most → n' ≡ n + length part → most + 1 < length (h.part ++ part) → ((rest : List ℕ) → IsLine rest → Took' (h.lines ++ ((h.part ++ part) ++ rest) ∷ []) output') → LinesStand Took' most' begun' n' line (given ++ part) output'
    reported l same m long took = continued l m (inr (omega (arith, same, long), took))

-- ---- A line that ends.

module _ (lines : List (List ℕ)) (raw given part : List ℕ) (is : given ++ part ≡ lines_text lines ++ raw) where
  line_text : (more : List ℕ) → given ++ (part ++ 10 ∷ more) ≡ lines_text lines ++ (raw ++ 10 ∷ more)
  line_text more = sym (append_assoc given part (10 ∷ more)) ∙ longer_text (lines_text lines) raw (given ++ part) (10 ∷ more) is

  pub line_taken : {Took : List (List ℕ) → List ℕ → Type 0} {most : ℕ} {begun : List ℕ} {n line : ℕ} {output : List ℕ} → begun ≡ [] → n ≡ 0 → line ≡ length lines + 1 → Took (lines ++ raw ∷ []) output → LinesStand Took most begun n line (given ++ (part ++ 10 ∷ [])) output
  line_taken e z m took = record {
    lines = lines ++ raw ∷ [];
    part = [];
    given_is =
        line_text []
        ∙ ap (λ (t : List ℕ). lines_text lines ++ t) (sym (one_line raw []))
        ∙ sym (append_assoc (lines_text lines) (lines_text (raw ∷ [])) [])
        ∙ ap (λ (t : List ℕ). t ++ []) (sym (lines_text-append lines (raw ∷ [])));
    is_line = All-nil (λ c. c ≡ 10 → ⊥);
    n_is = z;
    line_is = omega (arith, m, length-append lines (raw ∷ []));
    kept = inl (omega arith, e, took);
  }

  pub line_stops : (P : List ℕ → Type 0) (more : List ℕ) → P (lines_text lines ++ (raw ++ 10 ∷ more)) → P (given ++ (part ++ 10 ∷ more))
  line_stops P more = subst P (sym (line_text more))

-- ---- The lines of a piece.

-- a line of it isn't taken
pub piece_stops : (P : List ℕ → Type 0) (given piece front rest line beyond : List ℕ) → piece ≡ front ++ rest → rest ≡ line ++ 10 ∷ beyond → P ((given ++ front) ++ (line ++ 10 ∷ beyond)) → P (given ++ piece)
piece_stops P given piece front rest line beyond h e =
    subst P (ap (λ (z : List ℕ). (given ++ front) ++ z) (sym e) ∙ cut_given given piece front rest h)
