use Rattle.etcs_rows.proofs.FitLemmas.{waits_none, waits_known}
use Rattle.etcs_rows.proofs.fitting.known_steps.Goals as goal

pub returns-in-None : goal.returns-in-None
returns-in-None c = waits_none c.single.result c.args.outer.now c.in-None.ensures.cases c.single.ensures

pub returns-in_ok-again_steps-in-Some : goal.returns-in_ok-again_steps-in-Some
returns-in_ok-again_steps-in-Some c =
    waits_known c.plus.result c.in_ok-again_steps-in-Some.field-0 c.in_ok-tail-in-Some.tail c.in-Some.pending.now c.in-Some.field-0-1.now c.args.outer.now c.in-Some.ensures.cases.0 c.requires
    c.in_ok-tail-in-Some.was c.in_ok-again_steps-in-Some.ensures c.plus.ensures
