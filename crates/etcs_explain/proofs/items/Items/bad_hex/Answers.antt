use Rattle.std.proofs.Common.{ℕ, [], ◌∷◌, ap, refl}
use Rattle.std.proofs.lemmas.Result.{err_from_is_err_and}
use Rattle.etcs_reasons.specs.declared.page.TheConstants.{HEAD}
use Rattle.etcs_explain.specs.Inputs.{of_line}
use Rattle.etcs_explain.proofs.Taking.{refused_without, some_without, takes_at, takes_without}
use Rattle.etcs_explain.proofs.items.Items.bad_hex.Goals as goal

pub returns-in_err-pass-clause-err : goal.returns-in_err-pass-clause-err
returns-in_err-pass-clause-err c =
    let p = err_from_is_err_and c.from_residual.result c.from_residual.ensures.1 in
    let s = c.args.self.now in
    rw p.1 (some_without HEAD.now s c.pass.new.self c.args.page.now c.pass.new.page s.line c.args.line.now c.in_err-pass.ensures.err)

pub returns-in_err-bad_hex-clause-err : goal.returns-in_err-bad_hex-clause-err
returns-in_err-bad_hex-clause-err c =
    let p = err_from_is_err_and c.from_residual-in_err-bad_hex.result c.from_residual-in_err-bad_hex.ensures.1 in
    let s = c.args.self.now in
    rw p.1 (refused_without HEAD.now s c.pass.new.self _ c.args.page.now c.pass.new.page c.bad_hex.new.page s.line c.args.line.now c.in_ok-pass.ensures.ok c.bad_hex.ensures.task c.in_err-bad_hex.ensures.err)

pub returns-clause-ok : goal.returns-clause-ok
returns-clause-ok c =
    let s = c.args.self.now in
    let t = c.pass.new.self in
    let line = c.args.line.now in
    takes_at (ap (λ (n : ℕ). of_line n line ∷ []) c.pass.ensures.same.1) (takes_without HEAD.now s t _ c.args.page.now c.pass.new.page c.bad_hex.new.page t.line line c.in_ok-pass.ensures.ok (c.in_ok-pass.ensures.last refl) c.bad_hex.ensures.task refl refl c.in_ok-bad_hex.ensures.ok)
