use Rattle.std.proofs.Common.{[], refl}
use Rattle.std.proofs.lemmas.Result.{err_from_is_err_and}
use Rattle.etcs_reasons.specs.declared.page.TheConstants.{HEAD}
use Rattle.etcs_explain.specs.Inputs.{hex_tokens}
use Rattle.etcs_explain.proofs.Taking.{takes_refused}
use Rattle.etcs_explain.proofs.items.Items.hex_line.Goals as goal

pub returns-in_err-resize-clause-err : goal.returns-in_err-resize-clause-err
returns-in_err-resize-clause-err c =
    let p = err_from_is_err_and c.from_residual.result c.from_residual.ensures.1 in
    let s = c.args.self.now in
    let text = c.args.page.now in
    rw p.1 (takes_refused HEAD.now s.line s _ (hex_tokens s.explainer.task.kind s.line c.args.line.now) [] text text refl refl)
