-- What was explained of an input's front is what a run promises of it.
use Rattle.std.specs.Prelude.{Option}
use Rattle.std.proofs.Common.{◌≡◌, ℕ, ◌+◌, ◌<◌, ◌⊎◌, List, [], ◌∷◌, ◌++◌, map, length, refl, sym, ap, subst, ◌∙◌, inl, inr, append_assoc}
use Rattle.std.proofs.lemmas.List.{append-nil, map-append}
use Rattle.std.proofs.lemmas.List.Elements.{All-append, All-cons, All-nil}
use Rattle.etcs_text.specs.declared.entry.Kind.{Kind}
use Rattle.etcs_runs.specs.Lines.{IsLine, lines_text, strip_cr}
use Rattle.etcs_runs.specs.Promises.{Sound}
use Rattle.etcs_runs.specs.declared.form.Form.{Form}
use Rattle.etcs_runs.specs.declared.form.Form.TheVariants.{Hex, Bin, Json}
use Rattle.etcs_explain.specs.declared.task.Task.{Task}
use Rattle.etcs_explain.specs.declared.items.Items.{Items}
use Rattle.etcs_explain.specs.Inputs.{Token, of_byte, placed, line_tokens, line_long, lines_tokens, lines_long, Lines, IsSure, Begins, SoFar}
use Rattle.etcs_explain.specs.declared.seen.Seen.{Seen}
use Rattle.etcs_explain.specs.Parts.{Part, item, broken, good_line, bad_line, long_line, items_of, Fits, AreParts}
use Rattle.etcs_explain.specs.Explained.{Explained, Outputs, OutputsFirst, explanations}
use Rattle.etcs_explain.specs.Stands.{Comes, BytesStand, LinesTook}

-- ---- What is there of an input begins it.

more_of : (kind : Option Kind) (form : Form) (given more : List ℕ) (tokens : List Token) (long : List ℕ) → (h : Lines kind form given tokens long) → IsSure h.part → (k : Lines kind form (given ++ more) tokens long) × ((k.rest ≡ []) ⊎ IsSure k.part)
more_of kind form given more tokens long h s = (
  record {
    lines = h.lines;
    part = h.part;
    rest = h.rest ++ more;
    given_is = ap (λ (z : List ℕ). z ++ more) h.given_is ∙ append_assoc (lines_text h.lines) (h.part ++ h.rest) more ∙ ap (λ (z : List ℕ). lines_text h.lines ++ z) (append_assoc h.part h.rest more);
    are_lines = h.are_lines;
    tokens_are = h.tokens_are;
    long_is = h.long_is;
  },
  inr s,
)

-- and perhaps with further ones of what comes after it, in an input of bytes
abbrev BeginsMore : Option Kind → Form → List ℕ → List Token → List ℕ → Type 0
BeginsMore kind form given tokens long = (rest : List Token) × ((rest ≡ []) ⊎ (form ≡ Bin)) × Begins kind form given (tokens ++ rest) long

no_more : (kind : Option Kind) (form : Form) (given : List ℕ) (tokens : List Token) (long : List ℕ) → Begins kind form given tokens long → BeginsMore kind form given tokens long
no_more kind form given tokens long h = ([], inl refl, subst (λ (z : List Token). Begins kind form given z long) (sym (append-nil tokens)) h)

begins_more : (kind : Option Kind) (form : Form) (given more : List ℕ) (tokens : List Token) (long : List ℕ) → SoFar kind form given tokens long → BeginsMore kind form (given ++ more) tokens long
begins_more kind Bin given more tokens long h = (map (of_byte 0) more, inr refl, (ap (λ (z : List Token). z ++ map (of_byte 0) more) h.0 ∙ sym (map-append (of_byte 0) given more), h.1))
begins_more kind Hex given more tokens long h = no_more kind Hex (given ++ more) tokens long (more_of kind Hex given more tokens long h.0 h.1)
begins_more kind Json given more tokens long h = no_more kind Json (given ++ more) tokens long (more_of kind Json given more tokens long h.0 h.1)

-- of an input of bytes it doesn't matter what comes next
fits_any : (task : Task) (p : Part) (next next' : List Token) → (task.from ≡ Hex → ⊥) → Fits task.from task.kind p next → Fits task.from task.kind p next'
fits_any task (item kind lines bytes text) next next' other h = λ hex. absurd (other hex)
fits_any task (broken kind lines bytes fault text) next next' other h = λ hex. absurd (other hex)
fits_any task (good_line kind n line text) next next' other h = tt
fits_any task (bad_line kind n line fault text) next next' other h = tt
fits_any task (long_line n fault text) next next' other h = tt

are_any : (task : Task) (k : ℕ) (ps : List Part) (next next' : List Token) → (task.from ≡ Hex → ⊥) → AreParts task k ps next → AreParts task k ps next'
are_any task k [] next next' other h = tt
are_any task k (p ∷ ps) next next' other h = (h.0, fits_any task p _ _ other h.1, are_any task (k + items_of p) ps next next' other h.2)

explained_next : (page : List ℕ) (task : Task) (seen : Seen) (tokens next next' : List Token) (long output : List ℕ) → ((ps : List Part) → AreParts task 0 ps next → AreParts task 0 ps next') → Explained page task seen tokens next long output → Explained page task seen tokens next' long output
explained_next page task seen tokens next next' long output f h = record {
  parts = h.parts;
  are_parts = f h.parts h.are_parts;
  tokens_are = h.tokens_are;
  long_is = h.long_is;
  output_is = h.output_is;
  begun_is = h.begun_is;
  items_is = h.items_is;
  first_is = h.first_is;
}

explained_more : (page : List ℕ) (task : Task) (seen : Seen) (tokens next rest : List Token) (long output : List ℕ) → (rest ≡ []) ⊎ (task.from ≡ Bin) → Explained page task seen tokens next long output → Explained page task seen tokens (next ++ rest) long output
explained_more page task seen tokens next rest long output which h =
    elim which [
      | inl none ↦ subst (λ (z : List Token). Explained page task seen tokens z long output) (sym (append-nil next) ∙ ap (λ (z : List Token). next ++ z) (sym none)) h
      | inr bin ↦ explained_next page task seen tokens next (next ++ rest) long output (λ ps are. are_any task 0 ps next (next ++ rest) (λ hex. let e : ◌≡◌ {A = Form} Bin Hex = sym bin ∙ hex in absurd cc) are) h
    ]

pub explained_end : {page : List ℕ} {task : Task} {seen : Seen} {tokens next : List Token} {long output : List ℕ} → Explained page task seen tokens (next ++ []) long output → Explained page task seen tokens next long output
explained_end {page} {task} {seen} {tokens} {next} {long} {output} h = subst (λ (z : List Token). Explained page task seen tokens z long output) (append-nil next) h

-- nothing comes next
pub comes_none : (form : Form) (n : ℕ) → Comes form n []
comes_none Hex n = tt
comes_none Bin n = tt
comes_none Json n = tt

-- ---- Promises.

outputs_more : (page : List ℕ) (task : Task) (given more output : List ℕ) → Outputs page task given output → OutputsFirst page task (given ++ more) output
outputs_more page task given more output (tokens, lines, held, long, seen, so_far, short, is) =
    let b = begins_more task.kind task.from given more (tokens ++ placed lines held) long so_far in
    let begins = subst (λ (z : List Token). Begins task.kind task.from (given ++ more) z long) (append_assoc tokens (placed lines held) b.0) b.2 in
    (tokens, placed lines held ++ b.0, long, [], seen, subst (λ (z : List ℕ). Begins task.kind task.from (given ++ more) (tokens ++ (placed lines held ++ b.0)) z) (sym (append-nil long)) begins, explained_more page task seen tokens (placed lines held) b.0 long output b.1 is)

outputs_first : (page : List ℕ) (task : Task) (given output : List ℕ) → Outputs page task given output → OutputsFirst page task given output
outputs_first page task given output h =
    subst (λ (z : List ℕ). OutputsFirst page task z output) (append-nil given) (outputs_more page task given [] output h)

pub explanations_sound : (page foot : List ℕ) (task : Task) → Sound (explanations page foot task)
explanations_sound page foot task = record {
  outputs_print = λ given output h. inl (outputs_first page task given output h);
  stops_print = λ given output fault h. elim h [ inl s ↦ inl s.1 | inr b ↦ inr (fault, b) ];
  last_prints = λ given output fault h. inl h.1;
  starves = λ given more output h. inl (refl, outputs_more page task given more output h);
}

-- ---- What holds between two pieces.

pub bytes_output : (page : List ℕ) (s : Items) (given output : List ℕ) → BytesStand page s given output → Outputs page s.explainer.task given output
bytes_output page s given output h =
    let k = h.took [] in
    (k.tokens, s.lines.items, s.held.items, [], s.explainer.seen, subst (λ (f : Form). SoFar s.explainer.task.kind f given (k.tokens ++ placed s.lines.items s.held.items) []) (sym h.form) (sym k.all_are, refl), h.short, explained_end k.explained)

so_far_of : (kind : Option Kind) (form : Form) (given : List ℕ) (tokens : List Token) (long : List ℕ) → (form ≡ Bin → ⊥) → ((h : Lines kind form given tokens long) × IsSure h.part × IsLine h.rest) → SoFar kind form given tokens long
so_far_of kind Bin given tokens long other h = absurd (other refl)
so_far_of kind Hex given tokens long other h = h
so_far_of kind Json given tokens long other h = h

-- an empty line has nothing
none_of : (kind : Option Kind) (form : Form) (n : ℕ) → line_tokens kind form n (strip_cr []) ≡ []
none_of kind Bin n = refl
none_of kind Hex n = refl
none_of kind Json n = refl

pub tokens_none : (kind : Option Kind) (form : Form) (n : ℕ) (lines : List (List ℕ)) → lines_tokens kind form n lines ≡ lines_tokens kind form n (lines ++ [] ∷ [])
tokens_none kind form n [] = sym (append-nil (line_tokens kind form (n + 1) (strip_cr [])) ∙ none_of kind form (n + 1))
tokens_none kind form n (l ∷ lines) = ap (λ (z : List Token). line_tokens kind form (n + 1) (strip_cr l) ++ z) (tokens_none kind form (n + 1) lines)

pub long_none : (n : ℕ) (lines : List (List ℕ)) → lines_long n lines ≡ lines_long n (lines ++ [] ∷ [])
long_none n [] = refl
long_none n (l ∷ lines) = ap (λ (z : List ℕ). line_long (n + 1) (strip_cr l) ++ z) (long_none (n + 1) lines)

pub lines_output : (page : List ℕ) (s : Items) (lines : List (List ℕ)) (part output : List ℕ) → LinesTook page s lines output → IsLine part → Outputs page s.explainer.task (lines_text lines ++ part) output
lines_output page s lines part output h l =
    let none = All-nil (λ c. c ≡ 10 → ⊥) in
    let k = (h.took [] (comes_none s.explainer.task.from s.line)).1 in (
      k.tokens,
      s.lines.items,
      s.held.items,
      lines_long 0 lines,
      s.explainer.seen,
      so_far_of s.explainer.task.kind s.explainer.task.from (lines_text lines ++ part) _ _ h.form (
        record {
          lines = lines;
          part = [];
          rest = part;
          given_is = refl;
          are_lines = All-append IsLine lines ([] ∷ []) h.are_lines (All-cons IsLine [] [] none (All-nil IsLine));
          tokens_are = sym k.all_are ∙ tokens_none s.explainer.task.kind s.explainer.task.from 0 lines;
          long_is = long_none 0 lines;
        },
        inl refl,
        l,
      ),
      h.short,
      explained_end k.explained,
    )

pub long_output : (page : List ℕ) (s : Items) (lines : List (List ℕ)) (part output : List ℕ) → LinesTook page s (lines ++ part ∷ []) output → IsLine part → 1048576 + 1 < length part → Outputs page s.explainer.task (lines_text lines ++ part) output
long_output page s lines part output h l m = let k = (h.took [] (comes_none s.explainer.task.from s.line)).1 in (
  k.tokens,
  s.lines.items,
  s.held.items,
  lines_long 0 (lines ++ part ∷ []),
  s.explainer.seen,
  so_far_of s.explainer.task.kind s.explainer.task.from (lines_text lines ++ part) _ _ h.form (
    record {
      lines = lines;
      part = part;
      rest = [];
      given_is = ap (λ (z : List ℕ). lines_text lines ++ z) (sym (append-nil part));
      are_lines = h.are_lines;
      tokens_are = sym k.all_are;
      long_is = refl;
    },
    inr m,
    All-nil (λ c. c ≡ 10 → ⊥),
  ),
  h.short,
  explained_end k.explained,
)
