use Rattle.std.proofs.Common.{◌≡◌, ◌++◌, ◌∙◌, [], Some, ap, inl, inr, map, refl, subst, sym}
use Rattle.std.proofs.lemmas.Result.{err_from_is_err_and}
use Rattle.etcs_runs.specs.Faults.{IsOfEngine}
use Rattle.etcs_reasons.specs.declared.page.TheConstants.{FOOT, HEAD}
use Rattle.etcs_explain.specs.Inputs.{of_byte}
use Rattle.etcs_explain.specs.declared.task.Task.{Task}
use Rattle.etcs_explain.specs.declared.seen.Seen.{Seen}
use Rattle.etcs_explain.specs.Parts.{IsUncut}
use Rattle.etcs_explain.specs.Explained.{explanations}
use Rattle.etcs_explain.proofs.Faults.{breaks_of, none_uncut}
use Rattle.etcs_explain.proofs.Memory.{stops, was_err, was_ok, was_value}
use Rattle.etcs_explain.proofs.Taking.{some_none, some_then}
use Rattle.etcs_explain.proofs.Standing.{bin_stays, bytes_break, bytes_pass, bytes_piece, bytes_print, bytes_some}
use Rattle.etcs_explain.proofs.items.ItemsEngine.feed.Goals as goal

pub returns-in_err-or_memory-clause-err : goal.returns-in_err-or_memory-clause-err
returns-in_err-or_memory-clause-err c given output h =
    let p = err_from_is_err_and c.from_residual.result c.from_residual.ensures.1 in
    let s = c.args.self.now in
    let text = c.args.page.now in
    let piece = c.args.piece.now in
    let some = some_none HEAD.now s c.add.new.self (map (of_byte s.line) piece) [] [] text text c.add.ensures.same.0 refl in
    rw p.1 (stops p.0 (λ f. IsOfEngine f × (explanations HEAD.now FOOT.now s.explainer.task).Stops (given ++ piece) (output ++ text) f) (p.2 ∙ c.in_err-or_memory.ensures.err.0) (tt, inl (refl, bytes_print HEAD.now s c.add.new.self given piece output text text h c.requires.empty c.add.ensures.same.0 some)))

pub returns-in_err-or_memory-2-clause-err : goal.returns-in_err-or_memory-2-clause-err
returns-in_err-or_memory-2-clause-err c given output h =
    let p = err_from_is_err_and c.from_residual-in_err-or_memory-2.result c.from_residual-in_err-or_memory-2.ensures.1 in
    let s = c.args.self.now in
    let q = c.pass.new.self in
    let text = c.args.page.now in
    let after = c.pass.new.page in
    let piece = c.args.piece.now in
    let added = was_ok c.add.result _ _ c.in_ok-or_memory.ensures.ok c.add.ensures.ok in
    let some = bytes_some HEAD.now s c.add.new.self q piece text after h.form c.add.ensures.same.0 added (was_err c.pass.result _ c.in_err-or_memory-2.ensures.err.1 c.pass.ensures.err) in
    rw p.1 (stops p.0 (λ f. IsOfEngine f × (explanations HEAD.now FOOT.now s.explainer.task).Stops (given ++ piece) (output ++ after) f) (p.2 ∙ c.in_err-or_memory-2.ensures.err.0) (tt, inl (refl, bytes_print HEAD.now s q given piece output text after h c.requires.empty (c.pass.ensures.same.0 ∙ c.add.ensures.same.0) some)))

pub returns-in_err-or_memory-in-Some-clause-err : goal.returns-in_err-or_memory-in-Some-clause-err
returns-in_err-or_memory-in-Some-clause-err c given output h =
    let p = err_from_is_err_and c.from_residual-in_err-or_memory-in-Some.result c.from_residual-in_err-or_memory-in-Some.ensures.1 in
    let s = c.args.self.now in
    let u = c.finish.new.self in
    let text = c.args.page.now in
    let after = c.finish.new.page in
    let piece = c.args.piece.now in
    let q = c.pass.new.self in
    let added = was_ok c.add.result _ _ c.in_ok-or_memory.ensures.ok c.add.ensures.ok in
    let passed = was_ok c.pass.result _ _ c.in_ok-or_memory-2.ensures.ok c.pass.ensures.ok in
    let takes = bytes_pass HEAD.now s c.add.new.self q piece text c.pass.new.page h.form c.add.ensures.same.0 added passed in
    let stays = bin_stays q [] (ap (λ (z : Task). z.from) (c.pass.ensures.same.0 ∙ c.add.ensures.same.0) ∙ h.form) in
    let some = some_then (takes []) (was_err c.finish.result _ c.in_err-or_memory-in-Some.ensures.err.1 c.finish.ensures.err stays) in
    rw p.1 (stops p.0 (λ f. IsOfEngine f × (explanations HEAD.now FOOT.now s.explainer.task).Stops (given ++ piece) (output ++ after) f) (p.2 ∙ c.in_err-or_memory-in-Some.ensures.err.0) (tt, inl (refl, bytes_print HEAD.now s u given piece output text after h c.requires.empty (c.finish.ensures.task ∙ c.pass.ensures.same.0 ∙ c.add.ensures.same.0) some)))

pub returns-in_ok-or_memory-in-Some-clause-err : goal.returns-in_ok-or_memory-in-Some-clause-err
returns-in_ok-or_memory-in-Some-clause-err c given output h =
    let s = c.args.self.now in
    let a = c.add.new.self in
    let q = c.pass.new.self in
    let text = c.args.page.now in
    let after = c.finish.new.page in
    let piece = c.args.piece.now in
    let fault = c.in-Some.fault in
    let first = c.in_ok-or_memory-in-Some.field-0 in
    let was = c.in_ok-or_memory-in-Some.ensures.ok in
    let added = was_ok c.add.result _ _ c.in_ok-or_memory.ensures.ok c.add.ensures.ok in
    let passed = was_ok c.pass.result _ _ c.in_ok-or_memory-2.ensures.ok c.pass.ensures.ok in
    let takes = bytes_pass HEAD.now s a q piece text c.pass.new.page h.form c.add.ensures.same.0 added passed in
    let done = was_value c.finish.result first _ was c.finish.ensures.ok in
    let kept = was_value c.finish.result first (λ o. o ≡ Some fault) was (c.finish.ensures.kept fault c.in-Some.is) in
    let before = none_uncut a.explainer.seen.first (ap (λ (z : Seen). z.first) c.add.ensures.seen ∙ h.fine) in
    let uncut = was_ok c.pass.result _ _ c.in_ok-or_memory-2.ensures.ok (c.pass.ensures.uncut refl before) in
    let broken = bytes_break HEAD.now FOOT.now s q given piece output text c.pass.new.page after first fault h c.requires.empty (c.pass.ensures.same.0 ∙ c.add.ensures.same.0) takes done kept (subst IsUncut (c.in-Some.is ∙ sym kept) uncut) in
    (breaks_of HEAD.now FOOT.now s.explainer.task (given ++ piece) (output ++ after) fault broken, inr broken)

pub returns-in-None-clause-ok : goal.returns-in-None-clause-ok
returns-in-None-clause-ok c given output h =
    let s = c.args.self.now in
    let text = c.args.page.now in
    let added = was_ok c.add.result _ _ c.in_ok-or_memory.ensures.ok c.add.ensures.ok in
    let passed = was_ok c.pass.result _ _ c.in_ok-or_memory-2.ensures.ok c.pass.ensures.ok in
    let takes = bytes_pass HEAD.now s c.add.new.self c.pass.new.self c.args.piece.now text c.pass.new.page h.form c.add.ensures.same.0 added passed in
    let short = was_ok c.pass.result _ _ c.in_ok-or_memory-2.ensures.ok c.pass.ensures.short in
    bytes_piece HEAD.now s c.pass.new.self given c.args.piece.now output text c.pass.new.page h c.requires.empty (c.pass.ensures.same.0 ∙ c.add.ensures.same.0) (c.pass.ensures.same.1 ∙ c.add.ensures.same.1) takes short c.in-None.is
