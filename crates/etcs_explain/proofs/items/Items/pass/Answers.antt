use Rattle.std.proofs.Common.{◌≡◌, ◌∙◌, ℕ, List, ap, drop, false, length, subst}
use Rattle.std.specs.Prelude.{IsTrue}
use Rattle.std.proofs.lemmas.Result.{err_from_is_err_and}
use Rattle.etcs_runs.specs.declared.form.Form.TheVariants.{Hex}
use Rattle.etcs_reasons.specs.declared.page.TheConstants.{HEAD}
use Rattle.etcs_explain.specs.Cuts.{AreFew}
use Rattle.etcs_explain.proofs.Taking.{ExplainsFirst, ExplainsReady, passes_first, passes_some}
use Rattle.etcs_explain.proofs.items.Items.pass.Goals as goal

pub returns-in_err-count-clause-err : goal.returns-in_err-count-clause-err
returns-in_err-count-clause-err c =
    let p = err_from_is_err_and c.from_residual.result c.from_residual.ensures.1 in
    let s = c.args.self.now in
    let last = c.args.is_last in
    let text = c.args.page.now in
    let text' = c.items.new.page in
    let some1 = subst (λ (z : List ℕ). ExplainsReady HEAD.now last s.explainer.task s.explainer.seen text text' z c.as_slice.result.now) c.as_slice-2.ensures.value c.in_err-count.ensures.err in
    let some = subst (λ (z : List ℕ). ExplainsReady HEAD.now last s.explainer.task s.explainer.seen text text' s.lines.items z) c.as_slice.ensures.value some1 in
    rw p.1 (passes_some HEAD.now last s _ text text' c.items.ensures.task some)

pub returns-clause-ok : goal.returns-clause-ok
returns-clause-ok c =
    let s = c.args.self.now in
    let last = c.args.is_last in
    let n = c.in_ok-count.count in
    let text = c.args.page.now in
    let text' = c.items.new.page in
    let held = c.as_slice.ensures.value in
    let seen' = c.items.new.self.seen in
    let is1 = subst (λ (z : List ℕ). ExplainsFirst HEAD.now last s.explainer.task s.explainer.seen seen' text text' n z c.as_slice.result.now) c.as_slice-2.ensures.value c.in_ok-count.ensures.ok in
    let is = subst (λ (z : List ℕ). ExplainsFirst HEAD.now last s.explainer.task s.explainer.seen seen' text text' n s.lines.items z) held is1 in
    let all : IsTrue last → n ≡ length s.held.items = λ l. c.in_ok-count.ensures.last l ∙ ap length held in
    let few : last ≡ false → s.explainer.task.from ≡ Hex → AreFew s.explainer.task.kind (drop n s.held.items) = λ l hex. subst (λ (z : List ℕ). AreFew s.explainer.task.kind (drop n z)) held (c.in_ok-count.ensures.held l hex) in
    passes_first HEAD.now last s _ text text' n c.items.ensures.task is c.drop_first-2.ensures c.drop_first.ensures all few
