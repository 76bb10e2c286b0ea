use Rattle.std.proofs.Common.{◌≡◌, ◌≤◌, ◌-◌, ◌++◌, List, Some, drop, false, length, take}
use Rattle.etcs_runs.specs.declared.fault.RunFault.{RunFault}
use Rattle.etcs_reasons.specs.declared.page.TheConstants.{HEAD}
use Rattle.etcs_explain.specs.Inputs.{Token, placed}
use Rattle.etcs_explain.specs.Parts.{IsUncut}
use Rattle.etcs_explain.specs.Stands.{AreReady, Explains}
use Rattle.etcs_explain.proofs.explainer.Explainer.items.Given as goal

abbrev pub invariant-loop-at : goal.invariant-loop-at
invariant-loop-at l =
    (l.at ≤ length l.bytes)
    × (l.self.task ≡ l.fn.self.task)
    × (l.is_last ≡ false → IsUncut l.fn.self.seen.first → IsUncut l.self.seen.first)
    × ((next : List Token) → AreReady l.is_last l.fn.self.task l.lines l.bytes next → Explains HEAD.now l.fn.self.task l.fn.self.seen l.fn.page (placed (take l.at l.lines) (take l.at l.bytes)) (placed (drop l.at l.lines) (drop l.at l.bytes) ++ next) l.self.seen l.page × AreReady l.is_last l.fn.self.task (drop l.at l.lines) (drop l.at l.bytes) next)
    × ((fault : RunFault) → l.fn.self.seen.first ≡ Some fault → l.self.seen.first ≡ Some fault)

abbrev pub decreases-loop-at : goal.decreases-loop-at
decreases-loop-at l = length l.bytes - l.at
