use Rattle.std.proofs.Common.{ap, sym, ◌∙◌}
use Rattle.std.proofs.lemmas.Result.{on_err_weaker, on_ok_weaker}
use Rattle.etcs_explain.specs.Inputs.{json_tokens, short_tokens}
use Rattle.etcs_explain.proofs.Taking.{some_same, takes_at}
use Rattle.etcs_explain.proofs.items.Items.short_line.Goals as goal

pub returns-in-Json-clause-ok : goal.returns-in-Json-clause-ok
returns-in-Json-clause-ok c =
    let s = c.args.self.now in
    let e = ap (λ f. short_tokens s.explainer.task.kind f s.line c.args.line.now) c.in-Json.is ∙ ap (λ z. json_tokens s.line z) (sym c.without_mark.ensures) in
    on_ok_weaker c.json_line.result (λ k. takes_at (sym e) k) c.json_line.ensures.ok

pub returns-in-Json-clause-err : goal.returns-in-Json-clause-err
returns-in-Json-clause-err c =
    let s = c.args.self.now in
    let e = ap (λ f. short_tokens s.explainer.task.kind f s.line c.args.line.now) c.in-Json.is ∙ ap (λ z. json_tokens s.line z) (sym c.without_mark.ensures) in
    on_err_weaker c.json_line.result (λ k. some_same (sym e) k) c.json_line.ensures.err

pub returns-in-Hex-clause-ok : goal.returns-in-Hex-clause-ok
returns-in-Hex-clause-ok c =
    let s = c.args.self.now in
    let e = ap (λ f. short_tokens s.explainer.task.kind f s.line c.args.line.now) c.in-Hex.is in
    on_ok_weaker c.hex_line.result (λ k. takes_at (sym e) k) c.hex_line.ensures.ok

pub returns-in-Hex-clause-err : goal.returns-in-Hex-clause-err
returns-in-Hex-clause-err c =
    let s = c.args.self.now in
    let e = ap (λ f. short_tokens s.explainer.task.kind f s.line c.args.line.now) c.in-Hex.is in
    on_err_weaker c.hex_line.result (λ k. some_same (sym e) k) c.hex_line.ensures.err

pub returns-in-Bin-clause-ok : goal.returns-in-Bin-clause-ok
returns-in-Bin-clause-ok c =
    let s = c.args.self.now in
    let e = ap (λ f. short_tokens s.explainer.task.kind f s.line c.args.line.now) c.in-Bin.is in
    on_ok_weaker c.hex_line-in-Bin.result (λ k. takes_at (sym e) k) c.hex_line-in-Bin.ensures.ok

pub returns-in-Bin-clause-err : goal.returns-in-Bin-clause-err
returns-in-Bin-clause-err c =
    let s = c.args.self.now in
    let e = ap (λ f. short_tokens s.explainer.task.kind f s.line c.args.line.now) c.in-Bin.is in
    on_err_weaker c.hex_line-in-Bin.result (λ k. some_same (sym e) k) c.hex_line-in-Bin.ensures.err
