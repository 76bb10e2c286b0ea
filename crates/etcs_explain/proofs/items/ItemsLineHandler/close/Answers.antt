use Rattle.std.proofs.Common.{◌++◌, ◌∷◌, [], refl}
use Rattle.etcs_runs.specs.Faults.{IsOfEngine}
use Rattle.etcs_runs.specs.Lines.{lines_text}
use Rattle.etcs_reasons.specs.declared.page.TheConstants.{FOOT, HEAD}
use Rattle.etcs_explain.specs.Explained.{explanations}
use Rattle.etcs_explain.proofs.Memory.{ends_ok, memory_err}
use Rattle.etcs_explain.proofs.Standing.{end_prints, lines_empty, lines_end}
use Rattle.etcs_explain.proofs.items.ItemsLineHandler.close.Goals as goal

pub returns-clause-ok : goal.returns-clause-ok
returns-clause-ok c lines last output h l m =
    let s = c.args.self.now in
    let text = c.args.page.now in
    let h1 = lines_empty HEAD.now s (lines ++ last ∷ []) output text c.requires.empty h in
    ends_ok c.finish.result c.or_memory.result _ _ c.or_memory.ensures.ok (λ first f. lines_end HEAD.now FOOT.now s lines last output text c.finish.new.page first h1 f) c.finish.ensures.ok

pub returns-clause-err : goal.returns-clause-err
returns-clause-err c lines last output h l m =
    let s = c.args.self.now in
    let text = c.args.page.now in
    let h1 = lines_empty HEAD.now s (lines ++ last ∷ []) output text c.requires.empty h in
    memory_err c.finish.result c.or_memory.result _ (λ f. IsOfEngine f × (explanations HEAD.now FOOT.now s.explainer.task).StopsAtEnd (lines_text lines ++ last) (output ++ c.finish.new.page) f) c.or_memory.ensures.err c.finish.ensures.err
    (λ p. (tt, (refl, end_prints HEAD.now s c.finish.new.self lines last output text c.finish.new.page h1 c.finish.ensures.task p)))
