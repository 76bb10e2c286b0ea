use Rattle.std.proofs.Common.{◌+◌, ◌≤◌, arith, length, refl}
use Rattle.std.proofs.lemmas.Result.{err_from_is_err_and, on_err_weaker, on_ok_weaker}
use Rattle.etcs_reasons.specs.declared.page.TheConstants.{HEAD}
use Rattle.etcs_explain.specs.Inputs.{line_long}
use Rattle.etcs_explain.specs.Stands.{next_tokens}
use Rattle.etcs_explain.proofs.Taking.{some_short, takes_over, takes_refused, takes_short}
use Rattle.etcs_explain.proofs.items.Items.handle.Goals as goal

pub returns-in_err-long_line-clause-err : goal.returns-in_err-long_line-clause-err
returns-in_err-long_line-clause-err c =
    let p = err_from_is_err_and c.from_residual.result c.from_residual.ensures.1 in
    let s = c.args.self.now in
    rw p.1 (takes_refused HEAD.now (s.line + 1) s _ (next_tokens s c.args.line.now) (line_long (s.line + 1) c.args.line.now) c.args.page.now c.long_line.new.page c.long_line.ensures.task c.in_err-long_line.ensures.err)

pub returns-then-line-gt-MOST_LINE-clause-ok : goal.returns-then-line-gt-MOST_LINE-clause-ok
returns-then-line-gt-MOST_LINE-clause-ok c =
    takes_over HEAD.now c.args.self.now _ c.args.page.now c.long_line.new.page c.args.line.now (omega (arith, c.if-line-gt-MOST_LINE.true)) c.long_line.ensures.task refl refl c.in_ok-long_line.ensures.ok

pub returns-clause-ok : goal.returns-clause-ok
returns-clause-ok c =
    let line = c.args.line.now in
    let fits : length line ≤ 1048576 = omega (arith, c.if-line-gt-MOST_LINE.false) in
    on_ok_weaker c.short_line.result (λ k. takes_short HEAD.now c.args.self.now _ c.short_line.new.self c.args.page.now c.short_line.new.page line fits refl refl refl k) c.short_line.ensures.ok

pub returns-clause-err : goal.returns-clause-err
returns-clause-err c =
    let line = c.args.line.now in
    let fits : length line ≤ 1048576 = omega (arith, c.if-line-gt-MOST_LINE.false) in
    on_err_weaker c.short_line.result (λ k. some_short HEAD.now c.args.self.now _ c.short_line.new.self c.args.page.now c.short_line.new.page line fits refl refl refl k) c.short_line.ensures.err
