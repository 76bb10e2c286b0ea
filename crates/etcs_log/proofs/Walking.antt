-- The runs of a line, looked at one after another.
use Rattle.std.proofs.Common.{◌≡◌, ◌≤◌, ◌<◌, ◌*◌, ◌+◌, ◌++◌, ◌∷◌, ◌∙◌, ℕ, List, [], Option, Some, None, ap, arith, length, refl, sym}
use Rattle.std.proofs.lemmas.List.{append-nil, append_assoc}
use Rattle.std.specs.Prelude.{IfSome, IsNone}
use Rattle.etcs_runs.specs.Answers.{Says}
use Rattle.etcs_runs.specs.Digits.{text_digits}
use Rattle.etcs_runs.specs.RunTexts.{runs_from}
use Rattle.etcs_runs.specs.declared.run.Run.{Run}
use Rattle.etcs_log.specs.Walks.{Walks, texts_of}

-- there is no run more
pub walk_over : (all seen : List (List ℕ)) (next : Option Run) (buffer : List ℕ) → ((r : Run) → next ≡ Some r → ⊥) → Walks all seen next buffer → all ≡ seen
walk_over all seen None buffer not walk = walk.all_is ∙ append-nil seen
walk_over all seen (Some r) buffer not walk = absurd (not r refl)

-- the run before one
pub step : (run : Run) (next : Option Run) → (IsNone next → runs_from run ≡ run.text.now ∷ []) → IfSome next (λ r. runs_from run ≡ run.text.now ∷ runs_from r) → runs_from run ≡ run.text.now ∷ texts_of next
step run None none some = none refl
step run (Some r) none some = some

step_room : (next : Option Run) (n : ℕ) (buffer buffer' : List ℕ) → length buffer' ≡ length buffer → n ≤ 2 * length buffer → IfSome next (λ r. length r.text.now ≤ n) → IfSome next (λ r. length r.text.now ≤ 2 * length buffer')
step_room None n buffer buffer' same fits short = tt
step_room (Some r) n buffer buffer' same fits short = omega (arith, same, fits, short)

module _ (run : Run) (next : Option Run) (buffer buffer' : List ℕ) (none : IsNone next → runs_from run ≡ run.text.now ∷ []) (some : IfSome next (λ r. runs_from run ≡ run.text.now ∷ runs_from r)) (says : IfSome next (λ r. Says (text_digits r.text.now) r.bytes buffer')) (short : IfSome next (λ r. length r.text.now ≤ length run.text.now)) (same : length buffer' ≡ length buffer) (fits : length run.text.now ≤ 2 * length buffer) where
  pub walk_begins : Walks (runs_from run) (run.text.now ∷ []) next buffer'
  walk_begins = record { all_is = step run next none some; says = says; room = step_room next (length run.text.now) buffer buffer' same fits short }

  pub walk_goes : (all seen : List (List ℕ)) → all ≡ seen ++ runs_from run → Walks all (seen ++ run.text.now ∷ []) next buffer'
  walk_goes all seen is = record {
    all_is = is ∙ ap (λ (z : List (List ℕ)). seen ++ z) (step run next none some) ∙ sym (append_assoc seen (run.text.now ∷ []) (texts_of next));
    says = says;
    room = step_room next (length run.text.now) buffer buffer' same fits short;
  }

  pub walk_ends : length (texts_of next) < length (texts_of (Some run))
  walk_ends = omega (arith, ap length (step run next none some))
