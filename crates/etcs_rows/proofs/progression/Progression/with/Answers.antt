use Rattle.std.proofs.Common.{refl, ◌∙◌}
use Rattle.etcs_rows.proofs.StepLemmas.{with_second, with_next}
use Rattle.etcs_rows.proofs.progression.Progression.with.Goals as goal

pub returns-then-self-eq0 : goal.returns-then-self-eq0
returns-then-self-eq0 c = with_second c.args.self _ c.args.number c.if-self-eq0.true c.min.ensures c.abs_diff.ensures refl

pub returns-then-branch-number : goal.returns-then-branch-number
returns-then-branch-number c =
    with_next c.args.self _ c.args.number (rw c.in_ok-count.ensures.1 at c.in_ok-at.ensures ∙ c.if-branch-number.true) refl refl c.in_ok-count.ensures.1
