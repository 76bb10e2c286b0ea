use Rattle.std.proofs.Common.{◌++◌, ℕ, List, inl, refl, subst, sym}
use Rattle.etcs_runs.specs.Faults.{IsOfEngine}
use Rattle.etcs_runs.specs.Lines.{lines_text}
use Rattle.etcs_reasons.specs.declared.page.TheConstants.{FOOT, HEAD}
use Rattle.etcs_explain.specs.Explained.{OutputsFirst, explanations}
use Rattle.etcs_explain.proofs.Memory.{long_ok, memory_err}
use Rattle.etcs_explain.proofs.Standing.{long_prints}
use Rattle.etcs_explain.proofs.items.ItemsLineHandler.refuse_long.Goals as goal

pub returns-clause-ok : goal.returns-clause-ok
returns-clause-ok c lines part output h l m =
    long_ok c.long_line.result c.or_memory.result HEAD.now c.args.self.now _ lines part output c.args.page.now c.long_line.new.page c.or_memory.ensures.ok h l m c.long_line.ensures.task refl refl refl c.long_line.ensures.ok

pub returns-clause-err : goal.returns-clause-err
returns-clause-err c lines part more output h l m number =
    let s = c.args.self.now in
    memory_err c.long_line.result c.or_memory.result _ (λ f. IsOfEngine f × (explanations HEAD.now FOOT.now s.explainer.task).Stops (lines_text lines ++ (part ++ more)) (output ++ c.long_line.new.page) f) c.or_memory.ensures.err c.long_line.ensures.err
    (λ p. (tt, inl (refl, subst (λ (z : List ℕ). OutputsFirst HEAD.now s.explainer.task (lines_text lines ++ (part ++ more)) (output ++ z)) (sym p) (long_prints HEAD.now s lines (part ++ more) (output ++ c.args.page.now) h))))
