use Rattle.etcs_runs.proofs.Several.{none_of}
use Rattle.etcs_runs.proofs.cutter.LineHandler.handle_lines.Goals as goal

pub returns-clause-ok : goal.returns-clause-ok
returns-clause-ok g c = none_of (g.Self.LineHandler.took c.args.self.now) c.args.rest.now c.args.whole c.args.page.now
