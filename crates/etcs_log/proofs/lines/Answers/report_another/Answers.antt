use Rattle.std.proofs.Common.{◌∙◌, sym}
use Rattle.etcs_log.proofs.Another.{another_none, another_some, quiet_none}
use Rattle.etcs_log.proofs.lines.Answers.report_another.Goals as goal

pub returns-then-quiet-clause-ok : goal.returns-then-quiet-clause-ok
returns-then-quiet-clause-ok c =
    let s = c.args.self.now in
    quiet_none s.job s.line c.args.run.now c.args.text.now.items c.if-quiet.true

pub returns-in-Some-clause-ok : goal.returns-in-Some-clause-ok
returns-in-Some-clause-ok c =
    let s = c.args.self.now in
    let r = c.report in
    another_some r.result s.job s.line c.args.run.now c.args.text.now.items r.new.text.items _ c.in-Some.count c.in-Some.is c.if-quiet.false c.in_ok-count.ensures r.ensures.ok

pub returns-in-None-clause-ok : goal.returns-in-None-clause-ok
returns-in-None-clause-ok c =
    let s = c.args.self.now in
    another_none s.job s.line c.args.run.now c.args.text.now.items _ c.in-None.is c.if-quiet.false c.in_ok-count.ensures
