use Rattle.std.proofs.Common.{◌++◌, ◌∙◌, refl, subst}
use Rattle.std.proofs.lemmas.Result.{err_from_is_err_and}
use Rattle.etcs_runs.specs.Faults.{IsOfEngine}
use Rattle.etcs_runs.specs.Lines.{lines_text}
use Rattle.etcs_reasons.specs.declared.page.TheConstants.{FOOT, HEAD}
use Rattle.etcs_explain.specs.declared.task.Task.{Task}
use Rattle.etcs_explain.specs.Explained.{Ends, OutputsFirst, explanations}
use Rattle.etcs_explain.proofs.Memory.{ends_ok, memory_err, stops, was_err, was_ok}
use Rattle.etcs_explain.proofs.Standing.{end_prints, last_prints, lines_empty, lines_end, took_line}
use Rattle.etcs_explain.proofs.items.ItemsLineHandler.handle_last.Goals as goal

pub returns-in_err-or_memory-clause-err : goal.returns-in_err-or_memory-clause-err
returns-in_err-or_memory-clause-err c lines output h l number =
    let p = err_from_is_err_and c.from_residual.result c.from_residual.ensures.1 in
    let s = c.args.self.now in
    let raw = c.args.line.now in
    let text = c.args.page.now in
    let after = c.handle.new.page in
    let some = was_err c.handle.result _ c.in_err-or_memory.ensures.err.1 c.handle.ensures.err in
    rw p.1 (stops p.0 (λ f. IsOfEngine f × (explanations HEAD.now FOOT.now s.explainer.task).StopsAtEnd (lines_text lines ++ raw) (output ++ after) f) (p.2 ∙ c.in_err-or_memory.ensures.err.0) (tt, (refl, last_prints HEAD.now s c.handle.new.self lines raw c.without_cr.result.now output text after (lines_empty HEAD.now s lines output text c.requires.empty h) l c.without_cr.ensures c.handle.ensures.task some)))

pub returns-clause-ok : goal.returns-clause-ok
returns-clause-ok c lines output h l =
    let s = c.args.self.now in
    let q = c.handle.new.self in
    let raw = c.args.line.now in
    let text = c.args.page.now in
    let mid = c.handle.new.page in
    let after = c.finish.new.page in
    let was = c.in_ok-or_memory.ensures.ok in
    let m = took_line HEAD.now s q lines raw c.without_cr.result.now output text mid (lines_empty HEAD.now s lines output text c.requires.empty h) l c.without_cr.ensures c.handle.ensures.task c.handle.ensures.line (was_ok c.handle.result _ _ was c.handle.ensures.ok) (was_ok c.handle.result _ _ was c.handle.ensures.short) (λ j. was_ok c.handle.result _ _ was (c.handle.ensures.json j)) in
    ends_ok c.finish.result c.or_memory-2.result _ (λ o. Ends HEAD.now FOOT.now s.explainer.task (lines_text lines ++ raw) (output ++ after) o) c.or_memory-2.ensures.ok (λ first f. subst (λ (z : Task). Ends HEAD.now FOOT.now z (lines_text lines ++ raw) (output ++ after) first) c.handle.ensures.task (lines_end HEAD.now FOOT.now q lines raw output mid after first m f)) c.finish.ensures.ok

pub returns-clause-err : goal.returns-clause-err
returns-clause-err c lines output h l number =
    let s = c.args.self.now in
    let q = c.handle.new.self in
    let raw = c.args.line.now in
    let text = c.args.page.now in
    let mid = c.handle.new.page in
    let after = c.finish.new.page in
    let was = c.in_ok-or_memory.ensures.ok in
    let m = took_line HEAD.now s q lines raw c.without_cr.result.now output text mid (lines_empty HEAD.now s lines output text c.requires.empty h) l c.without_cr.ensures c.handle.ensures.task c.handle.ensures.line (was_ok c.handle.result _ _ was c.handle.ensures.ok) (was_ok c.handle.result _ _ was c.handle.ensures.short) (λ j. was_ok c.handle.result _ _ was (c.handle.ensures.json j)) in
    memory_err c.finish.result c.or_memory-2.result _ (λ f. IsOfEngine f × (explanations HEAD.now FOOT.now s.explainer.task).StopsAtEnd (lines_text lines ++ raw) (output ++ after) f) c.or_memory-2.ensures.err c.finish.ensures.err
    (λ p. (tt, (refl, subst (λ (z : Task). OutputsFirst HEAD.now z (lines_text lines ++ raw) (output ++ after)) c.handle.ensures.task (end_prints HEAD.now q c.finish.new.self lines raw output mid after m c.finish.ensures.task p))))
