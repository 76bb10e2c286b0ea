use Rattle.std.proofs.Common.{◌++◌, ◌∙◌, List, ℕ, ap, sym}
use Rattle.etcs_runs.specs.Digits.{is_blank, read_text, text_front, without_end}
use Rattle.etcs_runs.proofs.Fronts.{line_front-begins}
use Rattle.etcs_runs.proofs.front.line_front.Goals as goal

pub returns-clause-prefix : goal.returns-clause-prefix
returns-clause-prefix c =
    let begins = line_front-begins c.args.line.now in
    let text = c.find.ensures.text ∙ ap read_text c.without_mark.ensures.value in
    let is = c.without_blanks.ensures ∙ ap (without_end is_blank) (c.before_found.ensures ∙ c.find.ensures.front) ∙ ap text_front text in
    (begins.0, begins.1 ∙ ap (λ (z : List ℕ). z ++ begins.0) (sym is))
