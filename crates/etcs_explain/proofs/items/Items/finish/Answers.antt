use Rattle.std.proofs.Common.{[], refl}
use Rattle.std.proofs.lemmas.Result.{err_from_is_err_and}
use Rattle.etcs_reasons.specs.declared.page.TheConstants.{FOOT, HEAD}
use Rattle.etcs_explain.proofs.Standing.{finishes}
use Rattle.etcs_explain.proofs.Taking.{last_ready, some_none, some_then}
use Rattle.etcs_explain.proofs.items.Items.finish.Goals as goal

pub returns-in_err-pass-clause-err : goal.returns-in_err-pass-clause-err
returns-in_err-pass-clause-err c =
    let p = err_from_is_err_and c.from_residual.result c.from_residual.ensures.1 in
    rw p.1 (λ stays. c.in_err-pass.ensures.err [] (last_ready c.args.self.now stays))

pub returns-in_err-end-clause-err : goal.returns-in_err-end-clause-err
returns-in_err-end-clause-err c =
    let p = err_from_is_err_and c.from_residual-in_err-end.result c.from_residual-in_err-end.ensures.1 in
    let s = c.pass.new.self in
    rw p.1 (λ stays. some_then (c.in_ok-pass.ensures.ok [] (last_ready c.args.self.now stays)).0 (some_none HEAD.now s s [] [] [] c.pass.new.page c.end.new.page refl c.in_err-end.ensures.err))

pub returns-clause-ok : goal.returns-clause-ok
returns-clause-ok c =
    finishes HEAD.now FOOT.now c.args.self.now c.pass.new.self c.args.page.now c.pass.new.page c.end.new.page c.in_ok-pass.ensures.ok (c.in_ok-pass.ensures.last refl) c.pass.ensures.same.0 c.in_ok-end.ensures.ok
