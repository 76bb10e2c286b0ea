use Rattle.std.proofs.Common.{ℕ, List, map, refl, subst, sym, ◌∙◌}
use Rattle.std.proofs.lemmas.Bool.{both_ways, eqb-true}
use Rattle.std.proofs.lemmas.List.{nil_from_length}
use Rattle.std.proofs.lemmas.Result.{err_from_is_err_and, on_err_weaker, on_ok_weaker}
use Rattle.etcs_reasons.specs.declared.page.TheConstants.{HEAD}
use Rattle.etcs_explain.specs.Inputs.{of_byte}
use Rattle.etcs_explain.specs.Cuts.{IsCut}
use Rattle.etcs_explain.proofs.Cutting.{none_cut}
use Rattle.etcs_explain.proofs.Taking.{ends_cut, ends_none, ends_refused, ends_some}
use Rattle.etcs_explain.proofs.items.Items.end_cut.Goals as goal

pub returns-then-is_empty-clause-uncut : goal.returns-then-is_empty-clause-uncut
returns-then-is_empty-clause-uncut c =
    let none = nil_from_length c.args.self.now.held.items (sym c.args.self.now.held.ok.0 ∙ eqb-true _ 0 (sym c.is_empty.ensures ∙ c.if-is_empty.true)) in
    subst (λ (z : List ℕ). IsCut c.args.self.now.explainer.task.kind z c.args.bytes.now → ⊥) (sym none) (none_cut c.args.self.now.explainer.task.kind c.args.bytes.now)

pub returns-then-is_empty-clause-ok : goal.returns-then-is_empty-clause-ok
returns-then-is_empty-clause-ok c = ends_none HEAD.now c.args.self.now c.args.page.now (map (of_byte c.args.self.now.line) c.args.bytes.now)

pub returns-in_err-is_cut-clause-err : goal.returns-in_err-is_cut-clause-err
returns-in_err-is_cut-clause-err c =
    let p = err_from_is_err_and c.from_residual.result c.from_residual.ensures.1 in
    let text = c.args.page.now in
    rw p.1 (ends_refused HEAD.now c.args.self.now c.args.self.now text text (map (of_byte c.args.self.now.line) c.args.bytes.now) refl refl)

pub returns-then-branch-clause-uncut : goal.returns-then-branch-clause-uncut
returns-then-branch-clause-uncut c =
    on_ok_weaker c.pass.result (λ none. subst (λ (z : List ℕ). IsCut c.args.self.now.explainer.task.kind z c.args.bytes.now → ⊥) (sym none) (none_cut c.args.self.now.explainer.task.kind c.args.bytes.now)) (c.pass.ensures.last refl)

pub returns-then-branch-clause-ok : goal.returns-then-branch-clause-ok
returns-then-branch-clause-ok c =
    let s = c.args.self.now in
    let cut = subst (λ (z : List ℕ). IsCut s.explainer.task.kind z c.args.bytes.now) c.as_slice.ensures.value (c.in_ok-is_cut.ensures.cut.0 c.if-branch.true) in
    on_ok_weaker c.pass.result (λ k. ends_cut HEAD.now s c.pass.new.self c.args.page.now c.pass.new.page c.args.bytes.now c.requires.some cut k) c.pass.ensures.ok

pub returns-then-branch-clause-err : goal.returns-then-branch-clause-err
returns-then-branch-clause-err c =
    let s = c.args.self.now in
    let cut = subst (λ (z : List ℕ). IsCut s.explainer.task.kind z c.args.bytes.now) c.as_slice.ensures.value (c.in_ok-is_cut.ensures.cut.0 c.if-branch.true) in
    on_err_weaker c.pass.result (λ k. ends_some HEAD.now s c.pass.new.self c.args.page.now c.pass.new.page c.args.bytes.now c.requires.some cut k) c.pass.ensures.err

pub returns-clause-uncut : goal.returns-clause-uncut
returns-clause-uncut c = λ cut.
    let held = subst (λ (z : List ℕ). IsCut c.args.self.now.explainer.task.kind z c.args.bytes.now) (sym c.as_slice.ensures.value) cut in
    both_ways c.in_ok-is_cut.field-0 c.if-branch.false (c.in_ok-is_cut.ensures.cut.1 held)

pub returns-clause-ok : goal.returns-clause-ok
returns-clause-ok c = ends_none HEAD.now c.args.self.now c.args.page.now (map (of_byte c.args.self.now.line) c.args.bytes.now)
