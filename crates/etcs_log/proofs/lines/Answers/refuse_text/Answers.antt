use Rattle.std.proofs.Common.{◌∙◌, sym}
use Rattle.etcs_log.proofs.Answering.{answered_bad, answered_plain}
use Rattle.etcs_log.proofs.lines.Answers.refuse_text.Goals as goal

pub returns-then-lets-clause-ok : goal.returns-then-lets-clause-ok
returns-then-lets-clause-ok c =
    let s = c.args.self.now in
    answered_plain s.job s.line c.args.reports.now s.seen c.args.text.now.items c.requires.other (sym c.lets.ensures ∙ c.if-lets.true)

pub returns-clause-ok : goal.returns-clause-ok
returns-clause-ok c =
    let s = c.args.self.now in
    let r = c.refuse in
    answered_bad r.result s.job s.line c.args.reports.now s.seen r.new.self.seen c.args.text.now.items r.new.text.items c.requires.other (sym c.lets.ensures ∙ c.if-lets.false) r.ensures.ok
