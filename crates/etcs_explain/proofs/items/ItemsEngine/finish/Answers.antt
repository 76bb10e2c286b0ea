use Rattle.std.proofs.Common.{◌++◌, refl}
use Rattle.etcs_runs.specs.Faults.{IsOfEngine}
use Rattle.etcs_reasons.specs.declared.page.TheConstants.{FOOT, HEAD}
use Rattle.etcs_explain.specs.Explained.{explanations}
use Rattle.etcs_explain.proofs.Memory.{ends_ok, memory_err}
use Rattle.etcs_explain.proofs.Standing.{bytes_end, bytes_print_all}
use Rattle.etcs_explain.proofs.items.ItemsEngine.finish.Goals as goal

pub returns-clause-ok : goal.returns-clause-ok
returns-clause-ok c given output h =
    let s = c.args.self.now in
    ends_ok c.finish.result c.or_memory.result _ _ c.or_memory.ensures.ok (λ first f. bytes_end HEAD.now FOOT.now s given output c.args.page.now c.finish.new.page first h c.requires.empty f) c.finish.ensures.ok

pub returns-clause-err : goal.returns-clause-err
returns-clause-err c given output h =
    let s = c.args.self.now in
    memory_err c.finish.result c.or_memory.result _ (λ f. IsOfEngine f × (explanations HEAD.now FOOT.now s.explainer.task).StopsAtEnd given (output ++ c.finish.new.page) f) c.or_memory.ensures.err c.finish.ensures.err
    (λ p. (tt, (refl, bytes_print_all HEAD.now s c.finish.new.self given output c.args.page.now c.finish.new.page h c.requires.empty c.finish.ensures.task p)))
