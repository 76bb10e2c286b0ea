use Rattle.std.proofs.Common.{◌++◌, ◌∙◌, ℕ, List, ap, refl}
use Rattle.std.proofs.lemmas.Result.{err_from_is_err_and}
use Rattle.etcs_log.specs.declared.lines.Answers.{Answers}
use Rattle.etcs_log.proofs.log.LogLines.end.Goals as goal

pub returns-clause-ok : goal.returns-clause-ok
returns-clause-ok c =
    let (end, is, written) = c.in_ok-write_end.ensures.ok in
    let same = ap (λ (z : Answers). z.seen.tally) c.pass_on.ensures.answers ∙ c.write_end.ensures.tally in
    rw same (refl, (end, is, c.in_ok-pass_on.ensures.ok ∙ ap (λ (z : List ℕ). c.args.page.now ++ z) (rw c.clear.ensures.items at written)))

pub returns-in_err-write_end-clause-err : goal.returns-in_err-write_end-clause-err
returns-in_err-write_end-clause-err c =
    let r = err_from_is_err_and c.from_residual.result c.from_residual.ensures.1 in
    rw (r.1, r.2) (refl, refl)

pub returns-in_err-pass_on-clause-err : goal.returns-in_err-pass_on-clause-err
returns-in_err-pass_on-clause-err c =
    let r = err_from_is_err_and c.from_residual-in_err-pass_on.result c.from_residual-in_err-pass_on.ensures.1 in
    rw (r.1, r.2) (refl, c.in_err-pass_on.ensures.err)
