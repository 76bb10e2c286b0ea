use Rattle.std.proofs.Common.{◌≡◌, ◌∙◌, ℕ, List, [], ◌∷◌, ap, length, refl, sym}
use Rattle.std.specs.Prelude.{◌==◌}
use Rattle.std.proofs.lemmas.Bool.{eqb-true}
use Rattle.std.proofs.lemmas.Result.{err_from_is_err_and}
use Rattle.etcs_reasons.specs.declared.page.TheConstants.{HEAD}
use Rattle.etcs_explain.specs.Inputs.{json_tokens}
use Rattle.etcs_explain.proofs.Parting.{json_none, json_some}
use Rattle.etcs_explain.proofs.Taking.{takes_at, takes_json, takes_nothing, takes_refused}
use Rattle.etcs_explain.proofs.items.Items.json_line.Goals as goal

pub returns-then-is_empty-clause-ok : goal.returns-then-is_empty-clause-ok
returns-then-is_empty-clause-ok c =
    let s = c.args.self.now in
    let line = c.args.line.now in
    takes_at (sym (json_none s.line line (eqb-true (length line) 0 (sym c.is_empty.ensures ∙ c.if-is_empty.true)))) (takes_nothing HEAD.now s.line s c.args.page.now)

pub returns-in_err-json_line-clause-err : goal.returns-in_err-json_line-clause-err
returns-in_err-json_line-clause-err c =
    let p = err_from_is_err_and c.from_residual.result c.from_residual.ensures.1 in
    let s = c.args.self.now in
    rw p.1 (takes_refused HEAD.now s.line s _ (json_tokens s.line c.args.line.now) [] c.args.page.now c.json_line.new.page c.json_line.ensures.task c.in_err-json_line.ensures.err)

pub returns-clause-ok : goal.returns-clause-ok
returns-clause-ok c =
    let s = c.args.self.now in
    let line = c.args.line.now in
    let some = json_some s.line line (λ x. let w = sym c.if-is_empty.false ∙ c.is_empty.ensures ∙ ap (λ (l : List ℕ). length l == 0) x in absurd cc) in
    takes_at (sym some) (takes_json HEAD.now s.line s _ c.args.page.now c.json_line.new.page s.line line c.requires.none c.json_line.ensures.task refl refl c.in_ok-json_line.ensures.ok)
