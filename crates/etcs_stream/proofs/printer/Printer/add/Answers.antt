use Rattle.std.proofs.Common.{Ok, subst}
use Rattle.etcs_stream.specs.Reported.{Reported}
use Rattle.etcs_stream.specs.Groups.{Answers}
use Rattle.etcs_stream.proofs.Answering.{accepted}
use Rattle.etcs_stream.proofs.printer.Printer.add.Goals as goal

pub returns-in-Ok-clause-answer : goal.returns-in-Ok-clause-answer
returns-in-Ok-clause-answer c =
    subst (λ (s : Reported). Answers s.held c.args.telegram (Ok c.in-Ok.added)) c.self.view_is
    (accepted c.self.inside.assembly c.args.telegram c.in-Ok.added c.in-Ok.ensures.new c.in-Ok.ensures.repeat)

pub returns-in-Ok-clause-held : goal.returns-in-Ok-clause-held
returns-in-Ok-clause-held c = rw (← c.self.view_is) c.add.ensures.held

pub returns-in-Ok-clause-placed : goal.returns-in-Ok-clause-placed
returns-in-Ok-clause-placed c = c.add.ensures.placed

pub returns-in-Err-clause-answer : goal.returns-in-Err-clause-answer
returns-in-Err-clause-answer c = rw (← c.self.view_is) c.in-Err.ensures.clash

pub returns-in-Err-clause-held : goal.returns-in-Err-clause-held
returns-in-Err-clause-held c = rw (← c.self.view_is) c.add.ensures.held

pub returns-in-Err-clause-placed : goal.returns-in-Err-clause-placed
returns-in-Err-clause-placed c = c.add.ensures.placed
