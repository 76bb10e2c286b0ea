use Rattle.etcs_log.proofs.Answering.{tried_none, tried_whole}
use Rattle.etcs_log.proofs.lines.Answers.take_whole.Goals as goal

pub returns-clause-ok : goal.returns-clause-ok
returns-clause-ok c =
    let s = c.args.self.now in
    let l = c.take_telegram in
    let h = c.take_telegram-2 in
    let m = c.take_message in
    let one = l.new.self in
    let two = h.new.self in
    let long = tried_none c.in_ok-take_telegram.field-0 _ s.job s.line s.seen one.seen c.args.text.now.items l.new.text.items c.if-branch.false c.in_ok-take_telegram.ensures.ok in
    let short = tried_none c.in_ok-take_telegram-2.field-0 _ one.job one.line one.seen two.seen l.new.text.items h.new.text.items c.if-branch-2.false c.in_ok-take_telegram-2.ensures.ok in
    tried_whole m.result (c.args.run.now.text.now) c.args.bytes.now s.job one.job two.job s.line one.line two.line s.seen one.seen two.seen m.new.self.seen c.args.text.now.items l.new.text.items h.new.text.items m.new.text.items l.ensures.job l.ensures.line h.ensures.job h.ensures.line long short m.ensures.ok
