use Rattle.std.proofs.Common.{◌≡◌, ◌∙◌, ◌+◌, ◌*◌, ◌≤◌, [], ap, arith, false, length, refl, subst, sym}
use Rattle.etcs_runs.specs.RunTexts.{runs_from}
use Rattle.etcs_log.specs.declared.seen.Seen.{Seen}
use Rattle.etcs_log.specs.Candidates.{AreNone, text_candidates}
use Rattle.etcs_log.specs.Logs.{lines_in}
use Rattle.etcs_log.proofs.Answering.{answered_item, answered_later, answered_passed, answered_same, answered_texts_if, tried_none}
use Rattle.etcs_log.proofs.lines.Answers.take.Goals as goal

pub returns-then-branch-clause-ok : goal.returns-then-branch-clause-ok
returns-then-branch-clause-ok c =
    let s = c.args.self.now in
    let run = c.in-Some.last in
    let t = c.take_run in
    let r = c.report_another in
    let runs = c.in-Some.ensures.some in
    let item = answered_item r.result c.in_ok-take_run.field-0 s.job t.new.self.job s.line t.new.self.line [] _ run.text.now s.seen t.new.self.seen r.new.self.seen c.args.text.now.items t.new.text.items r.new.text.items c.if-branch.true t.ensures.job t.ensures.line r.ensures.seen tt c.in_ok-take_run.ensures.ok r.ensures.ok in
    answered_texts_if r.result s.job s.line c.args.line.now s.seen r.new.self.seen c.args.text.now.items r.new.text.items c.requires.short runs.0 (answered_same r.result s.job s.line _ _ s.seen r.new.self.seen c.args.text.now.items r.new.text.items runs.1 item)

pub returns-clause-ok : goal.returns-clause-ok
returns-clause-ok c =
    let s = c.args.self.now in
    let t = c.take_run in
    let b = c.take_before in
    let run = c.in-Some.last in
    let runs = c.in-Some.ensures.some in
    let none = tried_none c.in_ok-take_run.field-0 (text_candidates s.job.kinds run.text.now) s.job s.line s.seen t.new.self.seen c.args.text.now.items t.new.text.items c.if-branch.false c.in_ok-take_run.ensures.ok in
    let later = answered_later b.result s.job t.new.self.job s.line t.new.self.line (runs_from run) s.seen t.new.self.seen b.new.self.seen c.args.text.now.items t.new.text.items b.new.text.items t.ensures.job t.ensures.line none.1 none.2 b.ensures.ok in
    answered_texts_if b.result s.job s.line c.args.line.now s.seen b.new.self.seen c.args.text.now.items b.new.text.items c.requires.short runs.0 (answered_same b.result s.job s.line _ _ s.seen b.new.self.seen c.args.text.now.items b.new.text.items runs.1 later)
