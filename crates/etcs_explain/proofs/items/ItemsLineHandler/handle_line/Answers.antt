use Rattle.std.proofs.Common.{◌++◌, ◌∷◌, inl, refl}
use Rattle.etcs_runs.specs.Faults.{IsOfEngine}
use Rattle.etcs_runs.specs.Lines.{lines_text}
use Rattle.etcs_reasons.specs.declared.page.TheConstants.{FOOT, HEAD}
use Rattle.etcs_explain.specs.Explained.{explanations}
use Rattle.etcs_explain.proofs.Memory.{line_ok, memory_err}
use Rattle.etcs_explain.proofs.Standing.{line_prints}
use Rattle.etcs_explain.proofs.items.ItemsLineHandler.handle_line.Goals as goal

pub returns-clause-ok : goal.returns-clause-ok
returns-clause-ok c lines raw output h l e =
    line_ok c.handle.result c.or_memory.result HEAD.now c.args.self.now c.handle.new.self lines raw c.args.line.now output c.args.page.now c.handle.new.page c.or_memory.ensures.ok h l e c.handle.ensures.task c.handle.ensures.line c.handle.ensures.ok c.handle.ensures.short c.handle.ensures.json

pub returns-clause-err : goal.returns-clause-err
returns-clause-err c lines raw more output h l e number =
    let s = c.args.self.now in
    let text = c.handle.new.page in
    memory_err c.handle.result c.or_memory.result _ (λ f. IsOfEngine f × (explanations HEAD.now FOOT.now s.explainer.task).Stops (lines_text lines ++ (raw ++ 10 ∷ more)) (output ++ text) f) c.or_memory.ensures.err c.handle.ensures.err
    (λ p. (tt, inl (refl, line_prints HEAD.now s c.handle.new.self lines raw c.args.line.now more output c.args.page.now text h l e c.handle.ensures.task p)))
