use Rattle.std.proofs.Common.{refl}
use Rattle.etcs_log.proofs.Answering.{noted_bad}
use Rattle.etcs_log.proofs.lines.Answers.refuse.Goals as goal

pub returns-clause-ok : goal.returns-clause-ok
returns-clause-ok c =
    let s = c.args.self.now in
    let r = c.report in
    noted_bad r.result s.job s.line c.args.note.now s.seen r.new.self.seen c.args.text.now.items r.new.text.items r.ensures.seen r.ensures.ok
