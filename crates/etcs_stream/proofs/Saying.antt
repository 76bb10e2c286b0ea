-- The clauses about the text of an engine that fails.
use Rattle.std.proofs.Common.{◌≡◌, ℕ, ◌+◌, ◌≤◌, List, [], ◌++◌, Result, Ok, Err, refl, sym, ap, subst, ◌∙◌, arith, append_assoc}
use Rattle.std.specs.Prelude.{OnErr, IfErr}
use Rattle.std.proofs.lemmas.List.{append-nil}
use Rattle.etcs_text.specs.Entries.{EntryValue}
use Rattle.etcs_stream.specs.declared.job.Command.{Command}
use Rattle.etcs_runs.specs.declared.fault.RunFault.{RunFault}
use Rattle.etcs_stream.specs.Reported.{Reported}
use Rattle.etcs_stream.specs.Printers.{OutputsItems, nothing_reported}
use Rattle.etcs_stream.specs.Taking.{Says}
use Rattle.etcs_stream.proofs.OutputLemmas.{outputs_append}

-- no item was reported
pub says_here : (c : Command) (s n : Reported) (t t' : List ℕ) → t' ≡ t → n.count ≤ s.count + 1 → Says c s n t t'
says_here c s n t t' same few = record {
  reported = [];
  added = [];
  after = s;
  added_is = (refl, refl);
  text_is = same ∙ sym (append-nil t);
  counted = few;
}

-- nor counted
pub says_same : {A : Type 0} (Why : RunFault → Type 0) (c : Command) (s : Reported) (t t' : List ℕ) (answer : Result A RunFault) → IfErr answer (λ e. (t' ≡ t) × Why e) → OnErr answer (Says c s s t t')
says_same Why c s t t' (Ok a) h = tt
says_same Why c s t t' (Err e) h = says_here c s s t t' h.0 (omega arith)

module _ (c : Command) (s m n : Reported) (es : List EntryValue) (t x u v : List ℕ) (h : OutputsItems c s es x m) (is : u ≡ t ++ x) where
  -- items were reported before
  pub says_then : Says c m n u v → Says c s n t v
  says_then g = record {
    reported = es ++ g.reported;
    added = x ++ g.added;
    after = g.after;
    added_is = outputs_append c s m g.after es g.reported x g.added h g.added_is;
    text_is = g.text_is ∙ ap (λ (z : List ℕ). z ++ g.added) is ∙ append_assoc t x g.added;
    counted = g.counted;
  }

  pub says_then_if : {A : Type 0} (answer : Result A RunFault) → OnErr answer (Says c m n u v) → OnErr answer (Says c s n t v)
  says_then_if (Ok a) g = tt
  says_then_if (Err e) g = says_then g

module _ (c : Command) (s n : Reported) (es : List EntryValue) (output t t' : List ℕ) where
  -- all that was reported, with the text of this call
  pub says_all : OutputsItems c nothing_reported es (output ++ t) s → Says c s n t t' → Says c nothing_reported n [] (output ++ t')
  says_all h g = record {
    reported = es ++ g.reported;
    added = (output ++ t) ++ g.added;
    after = g.after;
    added_is = outputs_append c nothing_reported s g.after es g.reported (output ++ t) g.added h g.added_is;
    text_is = ap (λ (z : List ℕ). output ++ z) g.text_is ∙ sym (append_assoc output t g.added);
    counted = g.counted;
  }

  pub says_all_if : {A : Type 0} (answer : Result A RunFault) → OutputsItems c nothing_reported es (output ++ t) s → OnErr answer (Says c s n t t') → OnErr answer (Says c nothing_reported n [] (output ++ t'))
  says_all_if (Ok a) h g = tt
  says_all_if (Err e) h g = says_all h g

  -- which had none before
  none_before : t ≡ [] → OutputsItems c nothing_reported es output s → OutputsItems c nothing_reported es (output ++ t) s
  none_before none h = subst (λ (z : List ℕ). OutputsItems c nothing_reported es z s) (sym (ap (λ (z : List ℕ). output ++ z) none ∙ append-nil output)) h

  pub says_first : t ≡ [] → OutputsItems c nothing_reported es output s → Says c s n t t' → Says c nothing_reported n [] (output ++ t')
  says_first none h g = says_all (none_before none h) g

  pub says_first_if : {A : Type 0} (answer : Result A RunFault) → t ≡ [] → OutputsItems c nothing_reported es output s → OnErr answer (Says c s n t t') → OnErr answer (Says c nothing_reported n [] (output ++ t'))
  says_first_if answer none h g = says_all_if answer (none_before none h) g
