use Rattle.etcs_log.proofs.Answering.{answered_other}
use Rattle.etcs_log.proofs.lines.Answers.refuse_line.Goals as goal

pub returns-in-Some-clause-ok : goal.returns-in-Some-clause-ok
returns-in-Some-clause-ok c =
    let s = c.args.self.now in
    let p = c.pass_other in
    answered_other p.result s.job s.line _ c.args.reports.now s.seen p.new.self.seen c.args.text.now.items p.new.text.items c.in-Some.is p.ensures.ok
