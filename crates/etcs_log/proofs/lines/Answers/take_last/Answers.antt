use Rattle.etcs_text.specs.declared.entry.Kind.TheVariants.{Long, Short}
use Rattle.etcs_log.specs.Candidates.{last_candidate}
use Rattle.etcs_log.proofs.Answering.{tried_none, tried_right}
use Rattle.etcs_log.proofs.lines.Answers.take_last.Goals as goal

pub returns-clause-ok : goal.returns-clause-ok
returns-clause-ok c =
    let s = c.args.self.now in
    let bytes = c.args.bytes.now in
    let text = c.args.run.now.text.now in
    let l = c.take_end in
    let one = l.new.self in
    let r = c.take_end-2 in
    let long = tried_none c.in_ok-take_end.field-0 _ s.job s.line s.seen one.seen c.args.text.now.items l.new.text.items c.if-branch.false c.in_ok-take_end.ensures.ok in
    tried_right r.result (last_candidate s.job.kinds Long text bytes) (λ z. last_candidate z Short text bytes) s.job one.job s.line one.line s.seen one.seen r.new.self.seen c.args.text.now.items l.new.text.items r.new.text.items l.ensures.job l.ensures.line long r.ensures.ok
