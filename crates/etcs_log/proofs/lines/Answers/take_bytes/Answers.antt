use Rattle.std.proofs.Common.{refl}
use Rattle.std.proofs.lemmas.Result.{on_ok_weaker}
use Rattle.etcs_log.specs.Candidates.{last_candidates, whole_candidates}
use Rattle.etcs_log.proofs.Answering.{tried_left, tried_none, tried_right}
use Rattle.etcs_log.proofs.lines.Answers.take_bytes.Goals as goal

pub returns-then-branch-clause-ok : goal.returns-then-branch-clause-ok
returns-then-branch-clause-ok c =
    let s = c.args.self.now in
    let bytes = c.args.bytes.now in
    let text = c.args.run.now.text.now in
    let w = c.take_whole in
    tried_left c.in_ok-take_whole.field-0 (whole_candidates s.job.kinds text bytes) (last_candidates s.job.kinds text bytes) s.job s.line s.seen w.new.self.seen c.args.text.now.items w.new.text.items c.if-branch.true c.in_ok-take_whole.ensures.ok

pub returns-clause-ok : goal.returns-clause-ok
returns-clause-ok c =
    let s = c.args.self.now in
    let bytes = c.args.bytes.now in
    let text = c.args.run.now.text.now in
    let w = c.take_whole in
    let l = c.take_last in
    let one = w.new.self in
    let whole = tried_none c.in_ok-take_whole.field-0 _ s.job s.line s.seen one.seen c.args.text.now.items w.new.text.items c.if-branch.false c.in_ok-take_whole.ensures.ok in
    tried_right l.result (whole_candidates s.job.kinds text bytes) (λ k. last_candidates k text bytes) s.job one.job s.line one.line s.seen one.seen l.new.self.seen c.args.text.now.items w.new.text.items l.new.text.items w.ensures.job w.ensures.line whole l.ensures.ok
