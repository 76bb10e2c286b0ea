-- What was taken after one line more, and at the end.
use Rattle.std.proofs.Common.{◌≡◌, ℕ, ◌+◌, ◌≤◌, ◌<◌, ◌-◌, ◌⊎◌, Bool, true, false, Option, Some, None, List, [], ◌∷◌, ◌++◌, map, length, take, refl, sym, ap, subst, ◌∙◌, arith, inl, inr, append_assoc}
use Rattle.std.specs.Prelude.{All, cond}
use Rattle.std.specs.Io.BufRead.{ends_with_byte}
use Rattle.std.proofs.lemmas.List.{append-nil, map-append, length-append, length-take-le}
use Rattle.std.proofs.lemmas.List.Elements.{All-append, All-cons, All-nil}
use Rattle.etcs_text.specs.declared.entry.Kind.{Kind}
use Rattle.etcs_runs.specs.Lines.{IsLine, lines_text, strip_cr}
use Rattle.etcs_runs.proofs.LineTexts.{lines_text-append, one_line}
use Rattle.etcs_runs.specs.declared.form.Form.{Form}
use Rattle.etcs_runs.specs.declared.form.Form.TheVariants.{Hex, Bin, Json}
use Rattle.etcs_runs.specs.declared.fault.RunFault.{RunFault}
use Rattle.etcs_explain.specs.declared.task.Task.{Task}
use Rattle.etcs_explain.specs.declared.items.Items.{Items}
use Rattle.etcs_explain.specs.Inputs.{Token, of_byte, placed, line_tokens, line_long, lines_tokens, lines_long, Lines, IsSure, Has, Begins}
use Rattle.etcs_explain.specs.Parts.{IsUncut, edge, missing}
use Rattle.etcs_explain.specs.Explained.{Explained, OutputsFirst, Finished, Ends, Breaks}
use Rattle.etcs_explain.specs.Stands.{AddsLine, Comes, Stays, TookSome, TakesBefore, SomeBefore, Passes, PassesSome, Takes, TakesSome, Finishes, BytesStand, LinesTook, next_tokens}
use Rattle.etcs_explain.specs.laws.StandLaws.{tokens_none, long_none, comes_none, explained_end}
use Rattle.etcs_explain.proofs.Parting.{placed_none}
use Rattle.etcs_explain.proofs.Joining.{comes_line}
use Rattle.etcs_explain.proofs.Taking.{took_at, took_same, took_empty, takes_then, some_then, some_at, some_of, takes_over, last_ready}

-- ---- One line more.

tokens_snoc : (kind : Option Kind) (form : Form) (n : ℕ) (lines : List (List ℕ)) (raw : List ℕ) → lines_tokens kind form n (lines ++ raw ∷ []) ≡ lines_tokens kind form n lines ++ line_tokens kind form (n + length lines + 1) (strip_cr raw)
tokens_snoc kind form n [] raw =
    let same : n + 1 ≡ n + 0 + 1 = omega arith in
    append-nil (line_tokens kind form (n + 1) (strip_cr raw)) ∙ ap (λ (k : ℕ). line_tokens kind form k (strip_cr raw)) same
tokens_snoc kind form n (l ∷ lines) raw =
    let same : n + 1 + length lines + 1 ≡ n + length (l ∷ lines) + 1 = omega arith in
    ap (λ (z : List Token). line_tokens kind form (n + 1) (strip_cr l) ++ z) (tokens_snoc kind form (n + 1) lines raw)
    ∙ sym (append_assoc (line_tokens kind form (n + 1) (strip_cr l)) (lines_tokens kind form (n + 1) lines) (line_tokens kind form (n + 1 + length lines + 1) (strip_cr raw)))
    ∙ ap (λ (k : ℕ). lines_tokens kind form n (l ∷ lines) ++ line_tokens kind form k (strip_cr raw)) same

long_snoc : (n : ℕ) (lines : List (List ℕ)) (raw : List ℕ) → lines_long n (lines ++ raw ∷ []) ≡ lines_long n lines ++ line_long (n + length lines + 1) (strip_cr raw)
long_snoc n [] raw =
    let same : n + 1 ≡ n + 0 + 1 = omega arith in
    append-nil (line_long (n + 1) (strip_cr raw)) ∙ ap (λ (k : ℕ). line_long k (strip_cr raw)) same
long_snoc n (l ∷ lines) raw =
    let same : n + 1 + length lines + 1 ≡ n + length (l ∷ lines) + 1 = omega arith in
    ap (λ (z : List ℕ). line_long (n + 1) (strip_cr l) ++ z) (long_snoc (n + 1) lines raw)
    ∙ sym (append_assoc (line_long (n + 1) (strip_cr l)) (lines_long (n + 1) lines) (line_long (n + 1 + length lines + 1) (strip_cr raw)))
    ∙ ap (λ (k : ℕ). lines_long n (l ∷ lines) ++ line_long k (strip_cr raw)) same

lines_snoc : (lines : List (List ℕ)) (raw : List ℕ) → All IsLine lines → IsLine raw → All IsLine (lines ++ raw ∷ [])
lines_snoc lines raw all one = All-append IsLine lines (raw ∷ []) all (All-cons IsLine raw [] one (All-nil IsLine))

-- the tokens of these lines and of line n + 1
pub tokens_line : (kind : Option Kind) (form : Form) (n : ℕ) (lines : List (List ℕ)) (raw line : List ℕ) → n ≡ length lines → line ≡ strip_cr raw → lines_tokens kind form 0 lines ++ line_tokens kind form (n + 1) line ≡ lines_tokens kind form 0 (lines ++ raw ∷ [])
tokens_line kind form n lines raw line count e =
    let same : n + 1 ≡ 0 + length lines + 1 = omega (arith, count) in
    ap (λ (k : ℕ). lines_tokens kind form 0 lines ++ line_tokens kind form k line) same
    ∙ ap (λ (z : List ℕ). lines_tokens kind form 0 lines ++ line_tokens kind form (0 + length lines + 1) z) e
    ∙ sym (tokens_snoc kind form 0 lines raw)

pub long_line_is : (n : ℕ) (lines : List (List ℕ)) (raw line : List ℕ) → n ≡ length lines → line ≡ strip_cr raw → lines_long 0 lines ++ line_long (n + 1) line ≡ lines_long 0 (lines ++ raw ∷ [])
long_line_is n lines raw line count e =
    let same : n + 1 ≡ 0 + length lines + 1 = omega (arith, count) in
    ap (λ (k : ℕ). lines_long 0 lines ++ line_long k line) same
    ∙ ap (λ (z : List ℕ). lines_long 0 lines ++ line_long (0 + length lines + 1) z) e
    ∙ sym (long_snoc 0 lines raw)

-- the tokens of the next line, where t has the same task
next_line : (page : List ℕ) (s : Items) (task : Task) (lines : List (List ℕ)) (raw line output : List ℕ) → LinesTook page s lines output → line ≡ strip_cr raw → task ≡ s.explainer.task → lines_tokens task.kind task.from 0 (lines ++ raw ∷ []) ≡ lines_tokens s.explainer.task.kind s.explainer.task.from 0 lines ++ next_tokens s line
next_line page s task lines raw line output h e te =
    ap (λ (z : Task). lines_tokens z.kind z.from 0 (lines ++ raw ∷ [])) te ∙ sym (tokens_line s.explainer.task.kind s.explainer.task.from s.line lines raw line h.count e)

pub took_line : (page : List ℕ) (s t : Items) (lines : List (List ℕ)) (raw line output text text' : List ℕ) → LinesTook page s lines (output ++ text) → IsLine raw → line ≡ strip_cr raw → t.explainer.task ≡ s.explainer.task → t.line ≡ s.line + 1 → Takes page (s.line + 1) s text (next_tokens s line) (line_long (s.line + 1) line) t text' → length t.held.items < 1023 → (s.explainer.task.from ≡ Json → t.held.items ≡ []) → LinesTook page t (lines ++ raw ∷ []) (output ++ text')
took_line page s t lines raw line output text text' h l e te next k short json = record {
  form = λ bin. h.form (ap (λ (z : Task). z.from) (sym te) ∙ bin);
  short = short;
  json = λ j. json (ap (λ (z : Task). z.from) (sym te) ∙ j);
  count = omega (arith, next, h.count, length-append lines (raw ∷ []));
  are_lines = lines_snoc lines raw h.are_lines l;
  took = λ after comes.
      let comes1 = subst (λ (z : Task). Comes z.from (s.line + 1) after) te (subst (λ (n : ℕ). Comes t.explainer.task.from n after) next comes) in
      let (stays, was) = h.took (next_tokens s line ++ after) (comes_line s.explainer.task.kind s.explainer.task.from s.line line after comes1) in
      let (takes, left) = k.before after comes1 stays in
      (left, took_at page t _ _ after _ _ (output ++ text') (next_line page s t.explainer.task lines raw line (output ++ text) h e te) (long_line_is s.line lines raw line h.count e) (takes.took _ _ output was));
}

-- no text was written
pub lines_empty : (page : List ℕ) (s : Items) (lines : List (List ℕ)) (output text : List ℕ) → text ≡ [] → LinesTook page s lines output → LinesTook page s lines (output ++ text)
lines_empty page s lines output text e h =
    subst (λ (z : List ℕ). LinesTook page s lines z) (sym (append-nil output) ∙ ap (λ (z : List ℕ). output ++ z) (sym e)) h

-- ---- What an input begins with, and what a whole one has.

begins_of : (kind : Option Kind) (form : Form) (given : List ℕ) (tokens : List Token) (long : List ℕ) → (form ≡ Bin → ⊥) → ((h : Lines kind form given tokens long) × ((h.rest ≡ []) ⊎ IsSure h.part)) → Begins kind form given tokens long
begins_of kind Bin given tokens long other h = absurd (other refl)
begins_of kind Hex given tokens long other h = h
begins_of kind Json given tokens long other h = h

has_of : (kind : Option Kind) (form : Form) (given : List ℕ) (tokens : List Token) (long : List ℕ) → (form ≡ Bin → ⊥) → ((h : Lines kind form given tokens long) × (h.rest ≡ [])) → Has kind form given tokens long
has_of kind Bin given tokens long other h = absurd (other refl)
has_of kind Hex given tokens long other h = h
has_of kind Json given tokens long other h = h

front_begins : (kind : Option Kind) (form : Form) (lines : List (List ℕ)) (more : List ℕ) → (form ≡ Bin → ⊥) → All IsLine lines → Begins kind form (lines_text lines ++ more) (lines_tokens kind form 0 lines) (lines_long 0 lines)
front_begins kind form lines more other all =
    begins_of kind form (lines_text lines ++ more) _ _ other (
      record {
        lines = lines;
        part = [];
        rest = more;
        given_is = refl;
        are_lines = lines_snoc lines [] all (All-nil (λ c. c ≡ 10 → ⊥));
        tokens_are = tokens_none kind form 0 lines;
        long_is = long_none 0 lines;
      },
      inr (inl refl),
    )

whole_begins : (kind : Option Kind) (form : Form) (lines : List (List ℕ)) (last : List ℕ) → (form ≡ Bin → ⊥) → All IsLine (lines ++ last ∷ []) → Begins kind form (lines_text lines ++ last) (lines_tokens kind form 0 (lines ++ last ∷ [])) (lines_long 0 (lines ++ last ∷ []))
whole_begins kind form lines last other all =
    begins_of kind form (lines_text lines ++ last) _ _ other (
      record {
        lines = lines;
        part = last;
        rest = [];
        given_is = ap (λ (z : List ℕ). lines_text lines ++ z) (sym (append-nil last));
        are_lines = all;
        tokens_are = refl;
        long_is = refl;
      },
      inl refl,
    )

whole_has : (kind : Option Kind) (form : Form) (lines : List (List ℕ)) (last : List ℕ) → (form ≡ Bin → ⊥) → All IsLine (lines ++ last ∷ []) → Has kind form (lines_text lines ++ last) (lines_tokens kind form 0 (lines ++ last ∷ [])) (lines_long 0 (lines ++ last ∷ []))
whole_has kind form lines last other all =
    has_of kind form (lines_text lines ++ last) _ _ other (
      record {
        lines = lines;
        part = last;
        rest = [];
        given_is = ap (λ (z : List ℕ). lines_text lines ++ z) (sym (append-nil last));
        are_lines = all;
        tokens_are = refl;
        long_is = refl;
      },
      refl,
    )

pub some_prints : (page : List ℕ) (task : Task) (given : List ℕ) (all : List Token) (longs output : List ℕ) → TookSome page task all [] longs output → Begins task.kind task.from given all longs → OutputsFirst page task given output
some_prints page task given all longs output h begins =
    (h.tokens, h.rest, h.long, h.more, h.seen, subst (λ (z : List ℕ). Begins task.kind task.from given (h.tokens ++ h.rest) z) h.longs_are (subst (λ (z : List Token). Begins task.kind task.from given z longs) h.all_are begins), explained_end h.explained)

-- ---- Where memory is refused.

-- some of these lines and of the next one
some_line : (page : List ℕ) (s t : Items) (lines : List (List ℕ)) (raw line output text text' : List ℕ) → LinesTook page s lines (output ++ text) → line ≡ strip_cr raw → t.explainer.task ≡ s.explainer.task → TakesSome page (s.line + 1) s text (next_tokens s line) (line_long (s.line + 1) line) t text' → TookSome page s.explainer.task (lines_tokens s.explainer.task.kind s.explainer.task.from 0 (lines ++ raw ∷ [])) [] (lines_long 0 (lines ++ raw ∷ [])) (output ++ text')
some_line page s t lines raw line output text text' h e te k =
    let comes = comes_none s.explainer.task.from (s.line + 1) in
    let (stays, was) = h.took (next_tokens s line ++ []) (comes_line s.explainer.task.kind s.explainer.task.from s.line line [] comes) in
    subst (λ (z : Task). TookSome page z (lines_tokens s.explainer.task.kind s.explainer.task.from 0 (lines ++ raw ∷ [])) [] (lines_long 0 (lines ++ raw ∷ [])) (output ++ text')) te
    (some_at page t.explainer.task _ _ [] _ _ (output ++ text') (next_line page s s.explainer.task lines raw line (output ++ text) h e refl) (sym (long_line_is s.line lines raw line h.count e)) ((k.before [] comes stays).some _ _ output was))

-- in a line that had a LF
pub line_prints : (page : List ℕ) (s t : Items) (lines : List (List ℕ)) (raw line more output text text' : List ℕ) → LinesTook page s lines (output ++ text) → IsLine raw → line ≡ strip_cr raw → t.explainer.task ≡ s.explainer.task → TakesSome page (s.line + 1) s text (next_tokens s line) (line_long (s.line + 1) line) t text' → OutputsFirst page s.explainer.task (lines_text lines ++ (raw ++ 10 ∷ more)) (output ++ text')
line_prints page s t lines raw line more output text text' h l e te k =
    let task = s.explainer.task in
    let given = sym (append_assoc (lines_text lines) (lines_text (raw ∷ [])) more ∙ ap (λ (z : List ℕ). lines_text lines ++ z) (one_line raw more)) ∙ ap (λ (z : List ℕ). z ++ more) (sym (lines_text-append lines (raw ∷ []))) in
    subst (λ (z : List ℕ). OutputsFirst page task z (output ++ text')) (sym given)
    (some_prints page task (lines_text (lines ++ raw ∷ []) ++ more) _ _ (output ++ text') (some_line page s t lines raw line output text text' h e te k) (front_begins task.kind task.from (lines ++ raw ∷ []) more h.form (lines_snoc lines raw h.are_lines l)))

-- in one that is too long
pub long_prints : (page : List ℕ) (s : Items) (lines : List (List ℕ)) (more output : List ℕ) → LinesTook page s lines output → OutputsFirst page s.explainer.task (lines_text lines ++ more) output
long_prints page s lines more output h =
    let task = s.explainer.task in
    some_prints page task (lines_text lines ++ more) _ _ output (some_of page s _ [] _ output (h.took [] (comes_none task.from s.line)).1) (front_begins task.kind task.from lines more h.form h.are_lines)

-- in the last one
pub last_prints : (page : List ℕ) (s t : Items) (lines : List (List ℕ)) (raw line output text text' : List ℕ) → LinesTook page s lines (output ++ text) → IsLine raw → line ≡ strip_cr raw → t.explainer.task ≡ s.explainer.task → TakesSome page (s.line + 1) s text (next_tokens s line) (line_long (s.line + 1) line) t text' → OutputsFirst page s.explainer.task (lines_text lines ++ raw) (output ++ text')
last_prints page s t lines raw line output text text' h l e te k =
    let task = s.explainer.task in
    some_prints page task (lines_text lines ++ raw) _ _ (output ++ text') (some_line page s t lines raw line output text text' h e te k) (whole_begins task.kind task.from lines raw h.form (lines_snoc lines raw h.are_lines l))

-- after all of them
pub end_prints : (page : List ℕ) (s t : Items) (lines : List (List ℕ)) (last output text text' : List ℕ) → LinesTook page s (lines ++ last ∷ []) (output ++ text) → t.explainer.task ≡ s.explainer.task → (Stays s [] → SomeBefore page s text [] [] [] t text') → OutputsFirst page s.explainer.task (lines_text lines ++ last) (output ++ text')
end_prints page s t lines last output text text' h te k =
    let task = s.explainer.task in
    let (stays, was) = h.took [] (comes_none task.from s.line) in
    let some = some_at page t.explainer.task _ _ [] _ _ (output ++ text') (sym (append-nil (lines_tokens task.kind task.from 0 (lines ++ last ∷ [])))) (sym (append-nil (lines_long 0 (lines ++ last ∷ [])))) ((k stays).some _ _ output was) in
    some_prints page task (lines_text lines ++ last) _ _ (output ++ text') (subst (λ (z : Task). TookSome page z (lines_tokens task.kind task.from 0 (lines ++ last ∷ [])) [] (lines_long 0 (lines ++ last ∷ [])) (output ++ text')) te some) (whole_begins task.kind task.from lines last h.form h.are_lines)

-- ---- At the end.

-- all that was taken, and the foot
pub finishes : (page foot : List ℕ) (s t : Items) (text text' text'' : List ℕ) → Passes page true s text t text' → t.held.items ≡ [] → t.explainer.task ≡ s.explainer.task → text'' ≡ text' ++ (missing t.explainer.seen.is_begun (edge t.explainer.task.layout page) ++ edge t.explainer.task.layout foot) → Finishes page foot s text text'' t.explainer.seen.first
finishes page foot s t text text' text'' h none te e =
    let seen = t.explainer.seen in
    let gone : placed t.lines.items t.held.items ++ [] ≡ [] = ap (λ (z : List ℕ). placed t.lines.items z ++ []) none ∙ ap (λ (z : List Token). z ++ []) (placed_none t.lines.items) in
    let tail = missing seen.is_begun (edge t.explainer.task.layout page) ++ edge t.explainer.task.layout foot in
    record {
      finished = λ all long output stays k.
          let u = took_same page t all [] long (output ++ text') ((h [] (last_ready s stays)).0.took all long output k) in
          let tokens = u.all_are ∙ ap (λ (z : List ℕ). u.tokens ++ placed t.lines.items z) none ∙ ap (λ (z : List Token). u.tokens ++ z) (placed_none t.lines.items) ∙ append-nil u.tokens in
          subst (λ (z : Task). Finished page foot z all long (output ++ text'') seen.first) te
          (output ++ text', seen, subst (λ (z : List Token). Explained page t.explainer.task seen z [] long (output ++ text')) (sym tokens) (subst (λ (z : List Token). Explained page t.explainer.task seen u.tokens z long (output ++ text')) gone u.explained), ap (λ (z : List ℕ). output ++ z) e ∙ sym (append_assoc output text' tail), refl);
    }

pub lines_end : (page foot : List ℕ) (s : Items) (lines : List (List ℕ)) (last output text text' : List ℕ) (first : Option RunFault) → LinesTook page s (lines ++ last ∷ []) (output ++ text) → Finishes page foot s text text' first → Ends page foot s.explainer.task (lines_text lines ++ last) (output ++ text') first
lines_end page foot s lines last output text text' first h k =
    let (stays, was) = h.took [] (comes_none s.explainer.task.from s.line) in
    (_, _, whole_has s.explainer.task.kind s.explainer.task.from lines last h.form h.are_lines, k.finished _ _ output stays was)

-- ---- A line that is too long.

shorter : (b : Bool) (line : List ℕ) → length line ≤ length (cond b (take (length line - 1) line) line) + 1
shorter true line = omega (arith, length-take-le (length line - 1) line (omega arith))
shorter false line = omega arith

strip_long : (line : List ℕ) → length line ≤ length (strip_cr line) + 1
strip_long line = shorter (ends_with_byte 13 line) line

pub took_too_long : (page : List ℕ) (s t : Items) (lines : List (List ℕ)) (part rest output text text' : List ℕ) → LinesTook page s lines (output ++ text) → IsLine part → 1048576 + 1 < length part → t.explainer.task ≡ s.explainer.task → t.line ≡ s.line + 1 → t.lines.items ≡ s.lines.items → t.held.items ≡ s.held.items → AddsLine page s.explainer.task s.explainer.seen t.explainer.seen [] ((s.line + 1) ∷ []) text text' → IsLine rest → LinesTook page t (lines ++ (part ++ rest) ∷ []) (output ++ text')
took_too_long page s t lines part rest output text text' h l long te next le he a m =
    let raw = part ++ rest in
    let over : 1048576 < length (strip_cr raw) = omega (arith, long, strip_long raw, length-append part rest) in
    let k = takes_over page s t text text' (strip_cr raw) over te le he a in
    took_line page s t lines raw (strip_cr raw) output text text' h (All-append (λ c. c ≡ 10 → ⊥) part rest l m) refl te next k (subst (λ (z : List ℕ). length z < 1023) (sym he) h.short) (λ j. he ∙ h.json j)

-- ---- Bytes.

-- these were taken, after those
bytes_given : (s : Items) (given piece : List ℕ) → s.line ≡ 0 → map (of_byte 0) (given ++ piece) ≡ map (of_byte 0) given ++ map (of_byte s.line) piece
bytes_given s given piece e = map-append (of_byte 0) given piece ∙ ap (λ (n : ℕ). map (of_byte 0) given ++ map (of_byte n) piece) (sym e)

other_form : (s : Items) → s.explainer.task.from ≡ Bin → s.explainer.task.from ≡ Hex → ⊥
other_form s bin hex = let e : ◌≡◌ {A = Form} Bin Hex = sym bin ∙ hex in absurd cc

-- they were added, and what is held was explained, as far as it is whole
pub bytes_pass : (page : List ℕ) (s r t : Items) (piece text text' : List ℕ) → s.explainer.task.from ≡ Bin → r.explainer.task ≡ s.explainer.task → ((z : List ℕ) (next : List Token) → TakesBefore page s z (map (of_byte s.line) piece) next [] r z) → Passes page false r text t text' → (next : List Token) → TakesBefore page s text (map (of_byte s.line) piece) next [] t text'
bytes_pass page s r t piece text text' bin re adds passes next =
    takes_then (adds text next) (passes next (λ hex. absurd (other_form s bin (ap (λ (z : Task). z.from) (sym re) ∙ hex)))).0

pub bytes_some : (page : List ℕ) (s r t : Items) (piece text text' : List ℕ) → s.explainer.task.from ≡ Bin → r.explainer.task ≡ s.explainer.task → ((z : List ℕ) (next : List Token) → TakesBefore page s z (map (of_byte s.line) piece) next [] r z) → PassesSome page false r text t text' → SomeBefore page s text (map (of_byte s.line) piece) [] [] t text'
bytes_some page s r t piece text text' bin re adds passes =
    some_then (adds text []) (passes [] (λ hex. absurd (other_form s bin (ap (λ (z : Task). z.from) (sym re) ∙ hex))))

pub bin_stays : (s : Items) (next : List Token) → s.explainer.task.from ≡ Bin → Stays s next
bin_stays s next bin = λ hex. absurd (other_form s bin hex)

pub bytes_piece : (page : List ℕ) (s t : Items) (given piece output text text' : List ℕ) → BytesStand page s given output → text ≡ [] → t.explainer.task ≡ s.explainer.task → t.line ≡ s.line → ((next : List Token) → TakesBefore page s text (map (of_byte s.line) piece) next [] t text') → length t.held.items < 1023 → t.explainer.seen.first ≡ None → BytesStand page t (given ++ piece) (output ++ text')
bytes_piece page s t given piece output text text' h e te ne k short fine = record {
  form = ap (λ (z : Task). z.from) te ∙ h.form;
  line = ne ∙ h.line;
  short = short;
  fine = fine;
  took = λ next.
      let more = map (of_byte s.line) piece in
      took_at page t _ (map (of_byte 0) (given ++ piece)) next [] [] (output ++ text') (bytes_given s given piece h.line) refl ((k next).took (map (of_byte 0) given) [] output (took_empty page s (map (of_byte 0) given) (more ++ next) [] output text e (h.took (more ++ next))));
}

-- some of them, where memory is refused
pub bytes_print : (page : List ℕ) (s t : Items) (given piece output text text' : List ℕ) → BytesStand page s given output → text ≡ [] → t.explainer.task ≡ s.explainer.task → SomeBefore page s text (map (of_byte s.line) piece) [] [] t text' → OutputsFirst page s.explainer.task (given ++ piece) (output ++ text')
bytes_print page s t given piece output text text' h e te k =
    let more = map (of_byte s.line) piece in
    let some = some_at page t.explainer.task _ (map (of_byte 0) (given ++ piece)) [] [] [] (output ++ text') (bytes_given s given piece h.line) refl (k.some (map (of_byte 0) given) [] output (took_empty page s (map (of_byte 0) given) (more ++ []) [] output text e (h.took (more ++ [])))) in
    some_prints page s.explainer.task (given ++ piece) _ _ (output ++ text') (subst (λ (z : Task). TookSome page z (map (of_byte 0) (given ++ piece)) [] [] (output ++ text')) te some) (subst (λ (f : Form). Begins s.explainer.task.kind f (given ++ piece) (map (of_byte 0) (given ++ piece)) []) (sym h.form) (refl, refl))

pub bytes_print_all : (page : List ℕ) (s t : Items) (given output text text' : List ℕ) → BytesStand page s given output → text ≡ [] → t.explainer.task ≡ s.explainer.task → (Stays s [] → SomeBefore page s text [] [] [] t text') → OutputsFirst page s.explainer.task given (output ++ text')
bytes_print_all page s t given output text text' h e te k =
    subst (λ (z : List ℕ). OutputsFirst page s.explainer.task z (output ++ text')) (append-nil given) (bytes_print page s t given [] output text text' h e te (k (bin_stays s [] h.form)))

pub bytes_end : (page foot : List ℕ) (s : Items) (given output text text' : List ℕ) (first : Option RunFault) → BytesStand page s given output → text ≡ [] → Finishes page foot s text text' first → Ends page foot s.explainer.task given (output ++ text') first
bytes_end page foot s given output text text' first h e k =
    (_, _, subst (λ (f : Form). Has s.explainer.task.kind f given (map (of_byte 0) given) []) (sym h.form) (refl, refl), k.finished (map (of_byte 0) given) [] output (bin_stays s [] h.form) (took_empty page s (map (of_byte 0) given) [] [] output text e (h.took [])))

-- an item is refused
pub bytes_break : (page foot : List ℕ) (s t : Items) (given piece output text text' text'' : List ℕ) (first : Option RunFault) (fault : RunFault) → BytesStand page s given output → text ≡ [] → t.explainer.task ≡ s.explainer.task → ((next : List Token) → TakesBefore page s text (map (of_byte s.line) piece) next [] t text') → Finishes page foot t text' text'' first → first ≡ Some fault → IsUncut first → Breaks page foot s.explainer.task (given ++ piece) (output ++ text'') fault
bytes_break page foot s t given piece output text text' text'' first fault h e te k f is uncut =
    let task = s.explainer.task in
    let more = map (of_byte s.line) piece in
    let stays = bin_stays t [] (ap (λ (z : Task). z.from) te ∙ h.form) in
    let all = f.finished _ _ output stays ((k []).took (map (of_byte 0) given) [] output (took_empty page s (map (of_byte 0) given) (more ++ []) [] output text e (h.took (more ++ [])))) in
    let all1 = subst (λ (z : Task). Finished page foot z (map (of_byte 0) given ++ more) [] (output ++ text'') first) te all in
    let all2 = subst (λ (z : List Token). Finished page foot task z [] (output ++ text'') first) (sym (bytes_given s given piece h.line)) all1 in
    (h.form, subst IsUncut is uncut, subst (λ (z : Option RunFault). Finished page foot task (map (of_byte 0) (given ++ piece)) [] (output ++ text'') z) is all2)
