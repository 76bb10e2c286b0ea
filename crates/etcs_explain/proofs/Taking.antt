-- What is taken of an input, one after another.
use Rattle.std.proofs.Common.{◌≡◌, ℕ, ◌+◌, ◌-◌, ◌<◌, ◌≤◌, Bool, true, false, List, [], ◌∷◌, ◌++◌, map, length, take, drop, replicate, refl, sym, ap, subst, ◌∙◌, arith, append_assoc}
use Rattle.std.specs.Prelude.{IsTrue}
use Rattle.std.proofs.lemmas.List.{append-nil, length-append, take_all, drop_all}
use Rattle.etcs_runs.specs.declared.form.Form.{Form}
use Rattle.etcs_runs.specs.declared.form.Form.TheVariants.{Hex}
use Rattle.etcs_explain.specs.declared.task.Task.{Task}
use Rattle.etcs_explain.specs.declared.seen.Seen.{Seen}
use Rattle.etcs_explain.specs.declared.explainer.Explainer.{Explainer}
use Rattle.etcs_explain.specs.declared.items.Items.{Items}
use Rattle.etcs_explain.specs.Kinds.{kind_of}
use Rattle.etcs_explain.specs.Inputs.{Token, of_byte, of_line, placed, line_long, short_tokens}
use Rattle.etcs_explain.specs.Cuts.{AreFew, IsCut}
use Rattle.etcs_explain.specs.Explained.{Explained}
use Rattle.etcs_explain.specs.Stands.{AddsLine, Explains, ExplainsSome, Held, Ready, AreReady, Comes, Stays, Took, TookSome, TakesBefore, SomeBefore, Passes, PassesSome, EndsCut, EndsSome, Takes, TakesSome, next_tokens}
use Rattle.etcs_explain.proofs.Parting.{one_more, placed_none, placed_split, placed_both, tokens_short, long_short, tokens_long, long_long}
use Rattle.etcs_explain.proofs.Awaiting.{three_awaited}
use Rattle.etcs_explain.proofs.Joining.{held_none, held_at, held_ready, ready_held, ready_more, line_ends}

-- ---- The same tokens.

pub took_at : (page : List ℕ) (s : Items) (all all' next : List Token) (long long' output : List ℕ) → all' ≡ all → long ≡ long' → Took page s all next long output → Took page s all' next long' output
took_at page s all all' next long long' output e f h = record {
  tokens = h.tokens;
  all_are = e ∙ h.all_are;
  explained = subst (λ (z : List ℕ). Explained page s.explainer.task s.explainer.seen h.tokens (placed s.lines.items s.held.items ++ next) z output) f h.explained;
}

-- none were added
pub took_same : (page : List ℕ) (s : Items) (all next : List Token) (long output : List ℕ) → Took page s (all ++ []) next (long ++ []) output → Took page s all next long output
took_same page s all next long output h = took_at page s (all ++ []) all next (long ++ []) long output (sym (append-nil all)) (append-nil long) h

-- no text was
pub took_empty : (page : List ℕ) (s : Items) (all next : List Token) (long output text : List ℕ) → text ≡ [] → Took page s all next long output → Took page s all next long (output ++ text)
took_empty page s all next long output text e h =
    subst (λ (z : List ℕ). Took page s all next long z) (sym (append-nil output) ∙ ap (λ (z : List ℕ). output ++ z) (sym e)) h

-- what is held and what was seen are the same
took_by : (page : List ℕ) (s t : Items) (all next : List Token) (long output : List ℕ) → t.explainer ≡ s.explainer → t.lines.items ≡ s.lines.items → t.held.items ≡ s.held.items → Took page s all next long output → Took page t all next long output
took_by page s t all next long output e l b h =
    let same : placed s.lines.items s.held.items ≡ placed t.lines.items t.held.items = ap (λ (z : List ℕ). placed z s.held.items) (sym l) ∙ ap (λ (z : List ℕ). placed t.lines.items z) (sym b) in
    record {
      tokens = h.tokens;
      all_are = h.all_are ∙ ap (λ (z : List Token). h.tokens ++ z) same;
      explained =
          subst (λ (z : Explainer). Explained page z.task z.seen h.tokens (placed t.lines.items t.held.items ++ next) long output) (sym e)
          (subst (λ (z : List Token). Explained page s.explainer.task s.explainer.seen h.tokens (z ++ next) long output) same h.explained);
    }

-- the same comes
took_next : (page : List ℕ) (s : Items) (all next next' : List Token) (long output : List ℕ) → next ≡ next' → Took page s all next long output → Took page s all next' long output
took_next page s all next next' long output e h = subst (λ (z : List Token). Took page s all z long output) e h

-- ---- Some of them.

pub some_at : (page : List ℕ) (task : Task) (all all' next : List Token) (longs longs' output : List ℕ) → all' ≡ all → longs' ≡ longs → TookSome page task all next longs output → TookSome page task all' next longs' output
some_at page task all all' next longs longs' output e f h = record {
  tokens = h.tokens;
  rest = h.rest;
  long = h.long;
  more = h.more;
  seen = h.seen;
  all_are = e ∙ h.all_are;
  longs_are = f ∙ h.longs_are;
  explained = h.explained;
}

pub some_of : (page : List ℕ) (s : Items) (all next : List Token) (long output : List ℕ) → Took page s all next long output → TookSome page s.explainer.task all next long output
some_of page s all next long output h = record {
  tokens = h.tokens;
  rest = placed s.lines.items s.held.items;
  long = long;
  more = [];
  seen = s.explainer.seen;
  all_are = h.all_are;
  longs_are = sym (append-nil long);
  explained = h.explained;
}

some_more : (page : List ℕ) (task : Task) (all more next : List Token) (long longs output : List ℕ) → TookSome page task all (more ++ next) long output → TookSome page task (all ++ more) next (long ++ longs) output
some_more page task all more next long longs output h = record {
  tokens = h.tokens;
  rest = h.rest ++ more;
  long = h.long;
  more = h.more ++ longs;
  seen = h.seen;
  all_are = ap (λ (z : List Token). z ++ more) h.all_are ∙ append_assoc h.tokens h.rest more;
  longs_are = ap (λ (z : List ℕ). z ++ longs) h.longs_are ∙ append_assoc h.long h.more longs;
  explained = subst (λ (z : List Token). Explained page task h.seen h.tokens z h.long output) (sym (append_assoc h.rest more next)) h.explained;
}

-- ---- One after another.

pub takes_none : (page : List ℕ) (s : Items) (text : List ℕ) (next : List Token) → TakesBefore page s text [] next [] s text
takes_none page s text next = record { took = λ all long output h. took_at page s all (all ++ []) next long (long ++ []) (output ++ text) (append-nil all) (sym (append-nil long)) h }

pub takes_both : {page : List ℕ} {s t u : Items} {a b next : List Token} {la lb text text' text'' : List ℕ} → TakesBefore page s text a (b ++ next) la t text' → TakesBefore page t text' b next lb u text'' → TakesBefore page s text (a ++ b) next (la ++ lb) u text''
takes_both {page} {s} {u} {a} {b} {next} {la} {lb} {text} {text''} h k = record {
  took = λ all long output e.
      took_at page u ((all ++ a) ++ b) (all ++ (a ++ b)) next ((long ++ la) ++ lb) (long ++ (la ++ lb)) (output ++ text'') (sym (append_assoc all a b)) (append_assoc long la lb)
      (k.took (all ++ a) (long ++ la) output (h.took all long output (took_next page s all ((a ++ b) ++ next) (a ++ (b ++ next)) long (output ++ text) (append_assoc a b next) e)));
}

-- and no tokens after these
pub takes_then : {page : List ℕ} {s t u : Items} {a next : List Token} {la text text' text'' : List ℕ} → TakesBefore page s text a next la t text' → TakesBefore page t text' [] next [] u text'' → TakesBefore page s text a next la u text''
takes_then {page} {u} {a} {next} {la} {text''} h k = record { took = λ all long output e. took_same page u (all ++ a) next (long ++ la) (output ++ text'') (k.took (all ++ a) (long ++ la) output (h.took all long output e)) }

-- another number of lines came before
before_from : {page : List ℕ} {s r t : Items} {a next : List Token} {la text text' : List ℕ} → r.explainer ≡ s.explainer → r.lines.items ≡ s.lines.items → r.held.items ≡ s.held.items → TakesBefore page r text a next la t text' → TakesBefore page s text a next la t text'
before_from {page} {s} {r} {a} {next} {text} e l b h = record { took = λ all long output k. h.took all long output (took_by page s r all (a ++ next) long (output ++ text) e l b k) }

some_from : {page : List ℕ} {s r t : Items} {a next : List Token} {la text text' : List ℕ} → r.explainer ≡ s.explainer → r.lines.items ≡ s.lines.items → r.held.items ≡ s.held.items → SomeBefore page r text a next la t text' → SomeBefore page s text a next la t text'
some_from {page} {s} {r} {a} {next} {text} e l b h = record { some = λ all long output k. h.some all long output (took_by page s r all (a ++ next) long (output ++ text) e l b k) }

-- memory is refused before these
pub some_none : (page : List ℕ) (s t : Items) (a next : List Token) (la text text' : List ℕ) → t.explainer.task ≡ s.explainer.task → text' ≡ text → SomeBefore page s text a next la t text'
some_none page s t a next la text text' te e = record {
  some = λ all long output h.
      subst (λ (z : Task). TookSome page z (all ++ a) next (long ++ la) (output ++ text')) (sym te)
      (subst (λ (z : List ℕ). TookSome page s.explainer.task (all ++ a) next (long ++ la) (output ++ z)) (sym e)
      (some_more page s.explainer.task all a next long la (output ++ text) (some_of page s all (a ++ next) long (output ++ text) h)));
}

-- and nothing was taken of what comes after it
pub some_before : {page : List ℕ} {s t : Items} {next : List Token} {text text' : List ℕ} (b : List Token) (lb : List ℕ) → SomeBefore page s text [] (b ++ next) [] t text' → SomeBefore page s text b next lb t text'
some_before {page} {t} {next} {text'} b lb h = record {
  some = λ all long output e.
      let k = some_at page t.explainer.task (all ++ []) all (b ++ next) (long ++ []) long (output ++ text') (sym (append-nil all)) (sym (append-nil long)) (h.some all long output e) in
      some_more page t.explainer.task all b next long lb (output ++ text') k;
}

-- after these
pub some_after : {page : List ℕ} {s t u : Items} {a b next : List Token} {la lb text text' text'' : List ℕ} → TakesBefore page s text a (b ++ next) la t text' → SomeBefore page t text' b next lb u text'' → SomeBefore page s text (a ++ b) next (la ++ lb) u text''
some_after {page} {s} {u} {a} {b} {next} {la} {lb} {text} {text''} h k = record {
  some = λ all long output e.
      some_at page u.explainer.task ((all ++ a) ++ b) (all ++ (a ++ b)) next ((long ++ la) ++ lb) (long ++ (la ++ lb)) (output ++ text'') (sym (append_assoc all a b)) (sym (append_assoc long la lb))
      (k.some (all ++ a) (long ++ la) output (h.took all long output (took_next page s all ((a ++ b) ++ next) (a ++ (b ++ next)) long (output ++ text) (append_assoc a b next) e)));
}

pub some_then : {page : List ℕ} {s t u : Items} {a next : List Token} {la text text' text'' : List ℕ} → TakesBefore page s text a next la t text' → SomeBefore page t text' [] next [] u text'' → SomeBefore page s text a next la u text''
some_then {page} {u} {a} {next} {la} {text''} h k = record { some = λ all long output e. some_at page u.explainer.task ((all ++ a) ++ []) (all ++ a) next ((long ++ la) ++ []) (long ++ la) (output ++ text'') (sym (append-nil (all ++ a))) (sym (append-nil (long ++ la))) (k.some (all ++ a) (long ++ la) output (h.took all long output e)) }

-- ---- What is held.

-- the first n of the bytes that were held were explained
takes_first : (page : List ℕ) (s t : Items) (text text' : List ℕ) (n : ℕ) (next : List Token) → t.explainer.task ≡ s.explainer.task → Explains page s.explainer.task s.explainer.seen text (placed (take n s.lines.items) (take n s.held.items)) (placed (drop n s.lines.items) (drop n s.held.items) ++ next) t.explainer.seen text' → t.lines.items ≡ drop n s.lines.items → t.held.items ≡ drop n s.held.items → TakesBefore page s text [] next [] t text'
takes_first page s t text text' n next te h lines_are held_is =
    let front = placed (take n s.lines.items) (take n s.held.items) in
    let rest = placed (drop n s.lines.items) (drop n s.held.items) in
    let left : rest ≡ placed t.lines.items t.held.items = ap (λ (z : List ℕ). placed z (drop n s.held.items)) (sym lines_are) ∙ ap (λ (z : List ℕ). placed t.lines.items z) (sym held_is) in
    let split = placed_split n s.lines.items s.held.items in
    record {
      took = λ all long output k.
          let was = subst (λ (z : List Token). Explained page s.explainer.task s.explainer.seen k.tokens z long (output ++ text)) (ap (λ (z : List Token). z ++ next) split ∙ append_assoc front rest next) k.explained in
          record {
            tokens = k.tokens ++ front;
            all_are = append-nil all ∙ k.all_are ∙ ap (λ (z : List Token). k.tokens ++ z) split ∙ sym (append_assoc k.tokens front rest) ∙ ap (λ (z : List Token). (k.tokens ++ front) ++ z) left;
            explained =
                subst (λ (z : Task). Explained page z t.explainer.seen (k.tokens ++ front) (placed t.lines.items t.held.items ++ next) (long ++ []) (output ++ text')) (sym te)
                (subst (λ (z : List Token). Explained page s.explainer.task t.explainer.seen (k.tokens ++ front) (z ++ next) (long ++ []) (output ++ text')) left
                (subst (λ (z : List ℕ). Explained page s.explainer.task t.explainer.seen (k.tokens ++ front) (rest ++ next) z (output ++ text')) (sym (append-nil long)) (h.explained k.tokens long output was)));
          };
    }

few_left : (last : Bool) (task : Task) (bytes : List ℕ) (n : ℕ) → (IsTrue last → n ≡ length bytes) → (last ≡ false → task.from ≡ Hex → AreFew task.kind (drop n bytes)) → task.from ≡ Hex → AreFew task.kind (drop n bytes)
few_left true task bytes n all few hex =
    subst (λ (z : List ℕ). AreFew task.kind z) (sym (drop_all n bytes (omega (arith, all refl)))) (omega (arith, three_awaited (kind_of task.kind []) []))
few_left false task bytes n all few hex = few refl hex

-- the first n of these bytes were explained, if they are ready, and the rest is
abbrev pub ExplainsFirst : List ℕ → Bool → Task → Seen → Seen → List ℕ → List ℕ → ℕ → List ℕ → List ℕ → Type 0
ExplainsFirst page last task seen seen' text text' n lines bytes = (next : List Token) → AreReady last task lines bytes next → Explains page task seen text (placed (take n lines) (take n bytes)) (placed (drop n lines) (drop n bytes) ++ next) seen' text' × AreReady last task (drop n lines) (drop n bytes) next

abbrev pub ExplainsReady : List ℕ → Bool → Task → Seen → List ℕ → List ℕ → List ℕ → List ℕ → Type 0
ExplainsReady page last task seen text text' lines bytes = (next : List Token) → AreReady last task lines bytes next → ExplainsSome page task seen text (placed lines bytes) next text'

pub passes_first : (page : List ℕ) (last : Bool) (s t : Items) (text text' : List ℕ) (n : ℕ) → t.explainer.task ≡ s.explainer.task → ExplainsFirst page last s.explainer.task s.explainer.seen t.explainer.seen text text' n s.lines.items s.held.items → t.lines.items ≡ drop n s.lines.items → t.held.items ≡ drop n s.held.items → (IsTrue last → n ≡ length s.held.items) → (last ≡ false → s.explainer.task.from ≡ Hex → AreFew s.explainer.task.kind (drop n s.held.items)) → Passes page last s text t text'
passes_first page last s t text text' n te h lines_are held_is all few = λ next ready.
    let (explains, rest) = h next ready in (
      takes_first page s t text text' n next te explains lines_are held_is,
      (λ hex.
          let from = ap (λ (z : Task). z.from) (sym te) ∙ hex in
          let left = ready_held last s.explainer.task.kind (drop n s.lines.items) (drop n s.held.items) next (rest from) (few_left last s.explainer.task s.held.items n all few from) in
          subst (λ (z : Task). Held z.kind t.lines.items t.held.items next) (sym te) (held_at s.explainer.task.kind (drop n s.lines.items) t.lines.items (drop n s.held.items) t.held.items next lines_are held_is left)),
    )

-- or some of them
pub passes_some : (page : List ℕ) (last : Bool) (s t : Items) (text text' : List ℕ) → t.explainer.task ≡ s.explainer.task → ExplainsReady page last s.explainer.task s.explainer.seen text text' s.lines.items s.held.items → PassesSome page last s text t text'
passes_some page last s t text text' te h = λ next ready. record {
  some = λ all long output k.
      subst (λ (z : Task). TookSome page z (all ++ []) next (long ++ []) (output ++ text')) (sym te)
      (some_at page s.explainer.task (k.tokens ++ placed s.lines.items s.held.items) (all ++ []) next long (long ++ []) (output ++ text') (append-nil all ∙ k.all_are) (append-nil long) ((h next ready).some k.tokens long output k.explained));
}

-- the lines of bytes that are held and of n in all
pub grown : (lines held held' bytes : List ℕ) (n k l : ℕ) → length lines ≡ length held → held' ≡ held ++ bytes → n ≡ length held' → k ≡ length lines → take n lines ++ replicate (n - k) l ≡ lines ++ replicate (length bytes) l
grown lines held held' bytes n k l even is n_is k_is =
    let all : length held' ≡ length held + length bytes = ap length is ∙ length-append held bytes in
    let more : n - k ≡ length bytes = omega (arith, all, even, n_is, k_is) in
    ap (λ (z : ℕ). take n lines ++ replicate z l) more ∙ ap (λ (z : List ℕ). z ++ replicate (length bytes) l) (take_all n lines (omega (arith, all, even, n_is)))

-- bytes more are held
pub takes_bytes : (page : List ℕ) (s t : Items) (bytes text : List ℕ) (next : List Token) → t.explainer ≡ s.explainer → t.lines.items ≡ s.lines.items ++ replicate (length bytes) s.line → t.held.items ≡ s.held.items ++ bytes → TakesBefore page s text (map (of_byte s.line) bytes) next [] t text
takes_bytes page s t bytes text next e lines_are held_is =
    let more = map (of_byte s.line) bytes in
    let held = placed s.lines.items s.held.items in
    let both : held ++ more ≡ placed t.lines.items t.held.items =
    sym (placed_both s.lines.items s.held.items bytes s.line s.even)
    ∙ ap (λ (z : List ℕ). placed z (s.held.items ++ bytes)) (sym lines_are)
    ∙ ap (λ (z : List ℕ). placed t.lines.items z) (sym held_is) in
    record {
      took = λ all long output k. record {
        tokens = k.tokens;
        all_are = ap (λ (z : List Token). z ++ more) k.all_are ∙ append_assoc k.tokens held more ∙ ap (λ (z : List Token). k.tokens ++ z) both;
        explained =
            subst (λ (z : Explainer). Explained page z.task z.seen k.tokens (placed t.lines.items t.held.items ++ next) (long ++ []) (output ++ text)) (sym e)
            (subst (λ (z : List Token). Explained page s.explainer.task s.explainer.seen k.tokens z (long ++ []) (output ++ text)) (sym (append_assoc held more next) ∙ ap (λ (z : List Token). z ++ next) both)
            (subst (λ (z : List ℕ). Explained page s.explainer.task s.explainer.seen k.tokens (held ++ (more ++ next)) z (output ++ text)) (sym (append-nil long)) k.explained));
      };
    }

-- a line was explained, and nothing is held
takes_line : (page : List ℕ) (s t : Items) (text text' : List ℕ) (n : ℕ) (line : List ℕ) (next : List Token) → s.held.items ≡ [] → t.explainer.task ≡ s.explainer.task → t.lines.items ≡ s.lines.items → t.held.items ≡ s.held.items → AddsLine page s.explainer.task s.explainer.seen t.explainer.seen (of_line n line ∷ []) [] text text' → TakesBefore page s text (of_line n line ∷ []) next [] t text'
takes_line page s t text text' n line next none te l b a =
    let more = of_line n line ∷ [] in
    let empty : placed s.lines.items s.held.items ≡ [] = ap (λ (z : List ℕ). placed s.lines.items z) none ∙ placed_none s.lines.items in
    let still : placed t.lines.items t.held.items ≡ [] = ap (λ (z : List ℕ). placed z t.held.items) l ∙ ap (λ (z : List ℕ). placed s.lines.items z) b ∙ empty in
    record {
      took = λ all long output k.
          let was = subst (λ (z : List Token). Explained page s.explainer.task s.explainer.seen k.tokens (z ++ (more ++ next)) long (output ++ text)) empty k.explained in
          let is = one_more page s.explainer.task s.explainer.seen t.explainer.seen k.tokens more next long [] output text text' was (a next) in
          record {
            tokens = k.tokens ++ more;
            all_are =
                ap (λ (z : List Token). z ++ more) (k.all_are ∙ ap (λ (z : List Token). k.tokens ++ z) empty ∙ append-nil k.tokens)
                ∙ sym (append-nil (k.tokens ++ more))
                ∙ ap (λ (z : List Token). (k.tokens ++ more) ++ z) (sym still);
            explained =
                subst (λ (z : Task). Explained page z t.explainer.seen (k.tokens ++ more) (placed t.lines.items t.held.items ++ next) (long ++ []) (output ++ text')) (sym te)
                (subst (λ (z : List Token). Explained page s.explainer.task t.explainer.seen (k.tokens ++ more) (z ++ next) (long ++ []) (output ++ text')) (sym still) is);
          };
    }

-- one that is too long was reported, before what is held
takes_long : (page : List ℕ) (s t : Items) (text text' : List ℕ) (n : ℕ) (next : List Token) → t.explainer.task ≡ s.explainer.task → t.lines.items ≡ s.lines.items → t.held.items ≡ s.held.items → AddsLine page s.explainer.task s.explainer.seen t.explainer.seen [] (n ∷ []) text text' → TakesBefore page s text [] next (n ∷ []) t text'
takes_long page s t text text' n next te l b a =
    let held = placed s.lines.items s.held.items in
    let same : held ≡ placed t.lines.items t.held.items = ap (λ (z : List ℕ). placed z s.held.items) (sym l) ∙ ap (λ (z : List ℕ). placed t.lines.items z) (sym b) in
    record {
      took = λ all long output k.
          let is = one_more page s.explainer.task s.explainer.seen t.explainer.seen k.tokens [] (held ++ next) long (n ∷ []) output text text' k.explained (a (held ++ next)) in
          record {
            tokens = k.tokens;
            all_are = append-nil all ∙ k.all_are ∙ ap (λ (z : List Token). k.tokens ++ z) same;
            explained =
                subst (λ (z : Task). Explained page z t.explainer.seen k.tokens (placed t.lines.items t.held.items ++ next) (long ++ n ∷ []) (output ++ text')) (sym te)
                (subst (λ (z : List Token). Explained page s.explainer.task t.explainer.seen k.tokens (z ++ next) (long ++ n ∷ []) (output ++ text')) same
                (subst (λ (z : List Token). Explained page s.explainer.task t.explainer.seen z (held ++ next) (long ++ n ∷ []) (output ++ text')) (append-nil k.tokens) is));
          };
    }

-- ---- Lines.

-- what stays where nothing is held, and where the same is
pub stays_none : (t : Items) (next : List Token) → t.held.items ≡ [] → Stays t next
stays_none t next none = λ hex. held_at t.explainer.task.kind t.lines.items t.lines.items [] t.held.items next refl none (held_none t.explainer.task.kind t.lines.items next)

pub stays_same : (s t : Items) (next : List Token) → t.explainer.task ≡ s.explainer.task → t.lines.items ≡ s.lines.items → t.held.items ≡ s.held.items → Stays s next → Stays t next
stays_same s t next te l b h = λ hex.
    subst (λ (z : Task). Held z.kind t.lines.items t.held.items next) (sym te) (held_at s.explainer.task.kind s.lines.items t.lines.items s.held.items t.held.items next l b (h (ap (λ (z : Task). z.from) (sym te) ∙ hex)))

-- a line that has nothing
pub takes_nothing : (page : List ℕ) (n : ℕ) (s : Items) (text : List ℕ) → Takes page n s text [] [] s text
takes_nothing page n s text = record { before = λ next comes stays. (takes_none page s text next, stays) }

pub takes_at : {page : List ℕ} {n : ℕ} {s t : Items} {a b : List Token} {la text text' : List ℕ} → a ≡ b → Takes page n s text a la t text' → Takes page n s text b la t text'
takes_at {page} {n} {s} {t} {la} {text} {text'} e h = subst (λ (z : List Token). Takes page n s text z la t text') e h

pub some_same : {page : List ℕ} {n : ℕ} {s t : Items} {a b : List Token} {la text text' : List ℕ} → a ≡ b → TakesSome page n s text a la t text' → TakesSome page n s text b la t text'
some_same {page} {n} {s} {t} {la} {text} {text'} e h = subst (λ (z : List Token). TakesSome page n s text z la t text') e h

pub takes_refused : (page : List ℕ) (n : ℕ) (s t : Items) (a : List Token) (la text text' : List ℕ) → t.explainer.task ≡ s.explainer.task → text' ≡ text → TakesSome page n s text a la t text'
takes_refused page n s t a la text text' te e = record { before = λ next comes stays. some_none page s t a next la text text' te e }

-- a line of JSON
pub takes_json : (page : List ℕ) (m : ℕ) (s t : Items) (text text' : List ℕ) (n : ℕ) (line : List ℕ) → s.held.items ≡ [] → t.explainer.task ≡ s.explainer.task → t.lines.items ≡ s.lines.items → t.held.items ≡ s.held.items → AddsLine page s.explainer.task s.explainer.seen t.explainer.seen (of_line n line ∷ []) [] text text' → Takes page m s text (of_line n line ∷ []) [] t text'
takes_json page m s t text text' n line none te l b a = record { before = λ next comes stays. (takes_line page s t text text' n line next none te l b a, stays_none t next (b ∙ none)) }

-- ---- A line of hexadecimal.

-- where what is held was cut
pub ends_cut : (page : List ℕ) (s t : Items) (text text' bytes : List ℕ) → 0 < length bytes → IsCut s.explainer.task.kind s.held.items bytes → Passes page true s text t text' → EndsCut page s text (map (of_byte s.line) bytes) t text'
ends_cut page s t text text' bytes some cut passes = λ next comes stays.
    passes (map (of_byte s.line) bytes ++ next) (λ hex. held_ready true s.explainer.task.kind s.lines.items s.held.items _ (stays hex) (λ is any. line_ends s.explainer.task.kind s.held.items s.line bytes next some (subst (λ (f : Form). Comes f s.line next) hex comes) cut))

pub ends_some : (page : List ℕ) (s t : Items) (text text' bytes : List ℕ) → 0 < length bytes → IsCut s.explainer.task.kind s.held.items bytes → PassesSome page true s text t text' → EndsSome page s text (map (of_byte s.line) bytes) t text'
ends_some page s t text text' bytes some cut passes = λ next comes stays.
    passes (map (of_byte s.line) bytes ++ next) (λ hex. held_ready true s.explainer.task.kind s.lines.items s.held.items _ (stays hex) (λ is any. line_ends s.explainer.task.kind s.held.items s.line bytes next some (subst (λ (f : Form). Comes f s.line next) hex comes) cut))

pub ends_none : (page : List ℕ) (s : Items) (text : List ℕ) (line : List Token) → EndsCut page s text line s text
ends_none page s text line = λ next comes stays. (takes_none page s text (line ++ next), stays)

pub ends_refused : (page : List ℕ) (s t : Items) (text text' : List ℕ) (line : List Token) → t.explainer.task ≡ s.explainer.task → text' ≡ text → EndsSome page s text line t text'
ends_refused page s t text text' line te e = λ next comes stays. some_none page s t [] (line ++ next) [] text text' te e

pub some_ended : (page : List ℕ) (s t : Items) (text text' : List ℕ) (line : List Token) → EndsSome page s text line t text' → TakesSome page s.line s text line [] t text'
some_ended page s t text text' line ends = record { before = λ next comes stays. some_before line [] (ends next comes stays) }

pub refused_line : (page : List ℕ) (s t r : Items) (text text' : List ℕ) (line : List Token) → EndsCut page s text line t text' → r.explainer.task ≡ t.explainer.task → TakesSome page s.line s text line [] r text'
refused_line page s t r text text' line ends re = record { before = λ next comes stays. some_after (ends next comes stays).0 (some_none page t r line next [] text' text' re refl) }

-- the bytes of a line are held, after what wasn't cut
added_ready : (s r : Items) (bytes : List ℕ) (next : List Token) → r.explainer.task ≡ s.explainer.task → 0 < length bytes → r.lines.items ≡ s.lines.items ++ replicate (length bytes) s.line → r.held.items ≡ s.held.items ++ bytes → (IsCut s.explainer.task.kind s.held.items bytes → ⊥) → Comes s.explainer.task.from s.line next → Stays s (map (of_byte s.line) bytes ++ next) → AreReady false r.explainer.task r.lines.items r.held.items next
added_ready s r bytes next te some l b uncut comes stays = λ hex.
    let from = ap (λ (z : Task). z.from) (sym te) ∙ hex in
    subst (λ (z : Task). Ready false z.kind r.lines.items r.held.items next) (sym te)
    (subst (λ (z : List ℕ). Ready false s.explainer.task.kind z r.held.items next) (sym l)
    (subst (λ (z : List ℕ). Ready false s.explainer.task.kind (s.lines.items ++ replicate (length bytes) s.line) z next) (sym b)
    (ready_more s.explainer.task.kind s.lines.items s.held.items s.line bytes next s.even some (stays from) uncut (subst (λ (f : Form). Comes f s.line next) from comes))))

-- s, then t where what was held ended if it was cut, r with the line, and u
module _ (page : List ℕ) (s t r u : Items) (bytes text text' text'' : List ℕ) (te : t.explainer.task ≡ s.explainer.task) (re : r.explainer.task ≡ t.explainer.task) (line_is : t.line ≡ s.line) (some : 0 < length bytes) (l : r.lines.items ≡ t.lines.items ++ replicate (length bytes) t.line) (b : r.held.items ≡ t.held.items ++ bytes) (uncut : IsCut s.explainer.task.kind t.held.items bytes → ⊥) (ends : EndsCut page s text (map (of_byte s.line) bytes) t text') (adds : (z : List ℕ) (next : List Token) → TakesBefore page t z (map (of_byte t.line) bytes) next [] r z) where
  line_added : (next : List Token) → TakesBefore page t text' (map (of_byte s.line) bytes) next [] r text'
  line_added next = subst (λ (n : ℕ). TakesBefore page t text' (map (of_byte n) bytes) next [] r text') line_is (adds text' next)

  line_ready : (next : List Token) → Comes s.explainer.task.from s.line next → Stays t (map (of_byte s.line) bytes ++ next) → AreReady false r.explainer.task r.lines.items r.held.items next
  line_ready next comes stays =
      let from : t.explainer.task.from ≡ s.explainer.task.from = ap (λ (z : Task). z.from) te in
      added_ready t r bytes next re some l b (subst (λ (z : Task). IsCut z.kind t.held.items bytes → ⊥) (sym te) uncut)
      (subst (λ (f : Form). Comes f t.line next) (sym from) (subst (λ (n : ℕ). Comes s.explainer.task.from n next) (sym line_is) comes))
      (subst (λ (n : ℕ). Stays t (map (of_byte n) bytes ++ next)) (sym line_is) stays)

  pub takes_bytes_of_line : Passes page false r text' u text'' → Takes page s.line s text (map (of_byte s.line) bytes) [] u text''
  takes_bytes_of_line passes = record {
    before = λ next comes stays.
        let (ended, kept) = ends next comes stays in
        let (passed, left) = passes next (line_ready next comes kept) in
        (takes_then (takes_both ended (line_added next)) passed, left);
  }

  pub some_bytes_of_line : PassesSome page false r text' u text'' → TakesSome page s.line s text (map (of_byte s.line) bytes) [] u text''
  some_bytes_of_line passes = record {
    before = λ next comes stays.
        let (ended, kept) = ends next comes stays in
        some_then (takes_both ended (line_added next)) (passes next (line_ready next comes kept));
  }

-- a line without bytes, and t before it
pub takes_without : (page : List ℕ) (s t u : Items) (text text' text'' : List ℕ) (n : ℕ) (line : List ℕ) → Passes page true s text t text' → t.held.items ≡ [] → u.explainer.task ≡ t.explainer.task → u.lines.items ≡ t.lines.items → u.held.items ≡ t.held.items → AddsLine page t.explainer.task t.explainer.seen u.explainer.seen (of_line n line ∷ []) [] text' text'' → Takes page s.line s text (of_line n line ∷ []) [] u text''
takes_without page s t u text text' text'' n line passes none ue l b a = record {
  before = λ next comes stays.
      let (passed, left) = passes (of_line n line ∷ next) (λ hex. held_ready true s.explainer.task.kind s.lines.items s.held.items _ (stays hex) (λ is any. tt)) in
      (takes_both passed (takes_line page t u text' text'' n line next none ue l b a), stays_none u next (b ∙ none));
}

-- what is held ends before such a line, or at the end
pub some_without : (page : List ℕ) (s t : Items) (text text' : List ℕ) (n : ℕ) (line : List ℕ) → PassesSome page true s text t text' → TakesSome page s.line s text (of_line n line ∷ []) [] t text'
some_without page s t text text' n line passes = record {
  before = λ next comes stays.
      some_before (of_line n line ∷ []) [] (passes (of_line n line ∷ next) (λ hex. held_ready true s.explainer.task.kind s.lines.items s.held.items _ (stays hex) (λ is any. tt)));
}

pub refused_without : (page : List ℕ) (s t u : Items) (text text' text'' : List ℕ) (n : ℕ) (line : List ℕ) → Passes page true s text t text' → u.explainer.task ≡ t.explainer.task → text'' ≡ text' → TakesSome page s.line s text (of_line n line ∷ []) [] u text''
refused_without page s t u text text' text'' n line passes ue e = record {
  before = λ next comes stays.
      let (passed, left) = passes (of_line n line ∷ next) (λ hex. held_ready true s.explainer.task.kind s.lines.items s.held.items _ (stays hex) (λ is any. tt)) in
      some_after passed (some_none page t u (of_line n line ∷ []) next [] text' text'' ue e);
}

-- at the end
pub last_ready : (s : Items) → Stays s [] → AreReady true s.explainer.task s.lines.items s.held.items []
last_ready s stays = λ hex. held_ready true s.explainer.task.kind s.lines.items s.held.items [] (stays hex) (λ is any. tt)

-- ---- The next line.

-- it isn't too long
pub takes_short : (page : List ℕ) (s r t : Items) (text text' line : List ℕ) → length line ≤ 1048576 → r.explainer ≡ s.explainer → r.lines.items ≡ s.lines.items → r.held.items ≡ s.held.items → Takes page (s.line + 1) r text (short_tokens s.explainer.task.kind s.explainer.task.from (s.line + 1) line) [] t text' → Takes page (s.line + 1) s text (next_tokens s line) (line_long (s.line + 1) line) t text'
takes_short page s r t text text' line le e l b h =
    subst (λ (z : List ℕ). Takes page (s.line + 1) s text (next_tokens s line) z t text') (sym (long_short (s.line + 1) line le))
    (takes_at (sym (tokens_short s.explainer.task.kind s.explainer.task.from (s.line + 1) line le))
    (record {
      before = λ next comes stays.
          let task : r.explainer.task ≡ s.explainer.task = ap (λ (z : Explainer). z.task) e in
          let (took, left) = h.before next (subst (λ (f : Form). Comes f (s.line + 1) next) (ap (λ (z : Task). z.from) (sym task)) comes) (stays_same s r _ task l b stays) in
          (before_from e l b took, left);
    }))

pub some_short : (page : List ℕ) (s r t : Items) (text text' line : List ℕ) → length line ≤ 1048576 → r.explainer ≡ s.explainer → r.lines.items ≡ s.lines.items → r.held.items ≡ s.held.items → TakesSome page (s.line + 1) r text (short_tokens s.explainer.task.kind s.explainer.task.from (s.line + 1) line) [] t text' → TakesSome page (s.line + 1) s text (next_tokens s line) (line_long (s.line + 1) line) t text'
some_short page s r t text text' line le e l b h =
    subst (λ (z : List ℕ). TakesSome page (s.line + 1) s text (next_tokens s line) z t text') (sym (long_short (s.line + 1) line le))
    (some_same (sym (tokens_short s.explainer.task.kind s.explainer.task.from (s.line + 1) line le))
    (record {
      before = λ next comes stays.
          let task : r.explainer.task ≡ s.explainer.task = ap (λ (z : Explainer). z.task) e in
          some_from e l b (h.before next (subst (λ (f : Form). Comes f (s.line + 1) next) (ap (λ (z : Task). z.from) (sym task)) comes) (stays_same s r _ task l b stays));
    }))

-- it is
pub takes_over : (page : List ℕ) (s t : Items) (text text' line : List ℕ) → 1048576 < length line → t.explainer.task ≡ s.explainer.task → t.lines.items ≡ s.lines.items → t.held.items ≡ s.held.items → AddsLine page s.explainer.task s.explainer.seen t.explainer.seen [] ((s.line + 1) ∷ []) text text' → Takes page (s.line + 1) s text (next_tokens s line) (line_long (s.line + 1) line) t text'
takes_over page s t text text' line lt te l b a =
    subst (λ (z : List ℕ). Takes page (s.line + 1) s text (next_tokens s line) z t text') (sym (long_long (s.line + 1) line lt))
    (takes_at (sym (tokens_long s.explainer.task.kind s.explainer.task.from (s.line + 1) line lt)) (record { before = λ next comes stays. (takes_long page s t text text' (s.line + 1) next te l b a, stays_same s t next te l b stays) }))
