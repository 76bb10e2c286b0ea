use Rattle.std.proofs.Common.{◌≡◌, ℕ, zero, suc, ◌+◌, ◌<◌, ◌==◌, false, ◌∙◌, length, sym, ap, arith}
use Rattle.etcs_runs.specs.declared.words.Cut.TheVariants.{Gaps}
use Rattle.etcs_runs.specs.Cuts.{parts_at}
use Rattle.etcs_runs.specs.Digits.{before_words, last_first, run_words}
use Rattle.etcs_runs.proofs.Runs.{before_words-add}
use Rattle.etcs_runs.proofs.front.before_taken.Goals as goal
use Rattle.etcs_runs.proofs.front.before_taken.Goals.{in-Gaps, in_default}

not_none : (n : ℕ) → (n == 0) ≡ false → 0 < n
not_none zero h = cc h
not_none (suc n) h = omega arith

pub returns-then-not-is_empty : goal.returns-then-not-is_empty
returns-then-not-is_empty c =
    let f = c.args.found in
    let at = parts_at f.cut in
    let some : 0 < length f.before.now = not_none (length f.before.now) (sym c.is_empty.ensures ∙ c.if-not-is_empty.true) in
    let gaps : f.cut ≡ Gaps = elim c.match-matches.branch [
      | in-Gaps w ↦ w.in-Gaps.is
      | in_default w ↦ cc (sym w.matches-is ∙ c.if-matches.true)
    ] in
    c.requires some
    ∙ ap (before_words at (run_words f.size (last_first at f.before.now))) (sym (ap (λ k. before_words (parts_at k) f.after f.line.now) gaps ∙ f.grouped gaps some))
    ∙ sym (before_words-add at f.after (run_words f.size (last_first at f.before.now)) f.line.now)
