use Rattle.std.proofs.Common.{◌≡◌, ◌∙◌, ◌++◌, ◌∷◌, ◌+◌, [], ℕ, List, Option, ap, arith, false, refl, subst, sym}
use Rattle.std.proofs.lemmas.List.{append-nil}
use Rattle.std.proofs.lemmas.Result.{on_ok_weaker}
use Rattle.etcs_runs.specs.RunTexts.{runs_from}
use Rattle.etcs_runs.specs.declared.run.Run.{Run}
use Rattle.etcs_log.specs.declared.job.LogJob.{LogJob}
use Rattle.etcs_log.specs.declared.kinds.Kinds.{Kinds}
use Rattle.etcs_log.specs.declared.seen.Seen.{Seen}
use Rattle.etcs_log.specs.Candidates.{AreNone, line_candidates, text_candidates}
use Rattle.etcs_log.specs.Logs.{lines_in}
use Rattle.etcs_log.specs.Reports.{AreReports}
use Rattle.etcs_log.specs.Walks.{texts_of}
use Rattle.etcs_log.proofs.Answering.{answered_item, answered_later, answered_same, none-append, none_more, tried_moved, tried_none}
use Rattle.etcs_log.proofs.Walking.{walk_begins, walk_goes, walk_over}
use Rattle.etcs_log.proofs.lines.Answers.take_before.Goals as goal

pub runs-init : goal.runs-init
runs-init c =
    let last = c.args.last.now in
    let e = c.before-next.ensures in
    (refl, refl, refl, refl, ([], walk_begins last c.before-next.result c.args.buffer.now c.before-next.new.buffer e.none e.some e.bytes e.short e.room c.requires.room, none-append (text_candidates c.args.self.now.job.kinds last.text.now) [] c.requires.none tt, c.of-reports.ensures))

pub returns-then-branch-clause-ok : goal.returns-then-branch-clause-ok
returns-then-branch-clause-ok c =
    let s = c.args.self.now in
    let l = c.runs in
    let run = c.in-Some.run' in
    let t = c.take_run in
    let r = c.report_another in
    let (job, line, seen, text, (passed, walk, none, reports)) = c.runs.invariant in
    let tried = tried_moved c.in_ok-take_run.field-0 (λ k. text_candidates k run.text.now) s.job l.self.job s.line l.self.line s.seen l.self.seen t.new.self.seen c.args.text.now.items l.text.items t.new.text.items job line seen text c.in_ok-take_run.ensures.ok in
    let all : runs_from c.args.last.now ≡ (c.args.last.now.text.now ∷ passed) ++ runs_from run = rw c.in-Some.is at walk.all_is in
    answered_same r.result s.job s.line _ _ s.seen r.new.self.seen c.args.text.now.items r.new.text.items (sym all) (answered_item r.result c.in_ok-take_run.field-0 s.job t.new.self.job s.line t.new.self.line (c.args.last.now.text.now ∷ passed) _ run.text.now s.seen t.new.self.seen r.new.self.seen c.args.text.now.items t.new.text.items r.new.text.items c.if-branch.true (t.ensures.job ∙ job) (t.ensures.line ∙ line) r.ensures.seen none tried r.ensures.ok)

pub runs-preserved : goal.runs-preserved
runs-preserved c =
    let s = c.args.self.now in
    let l = c.runs in
    let run = c.in-Some.run' in
    let t = c.take_run in
    let e = c.before-next-in-Some.ensures in
    let (job, line, seen, text, (passed, walk, none, reports)) = c.runs.invariant in
    let tried = tried_none c.in_ok-take_run.field-0 (text_candidates s.job.kinds run.text.now) s.job s.line s.seen t.new.self.seen c.args.text.now.items t.new.text.items c.if-branch.false (tried_moved c.in_ok-take_run.field-0 (λ k. text_candidates k run.text.now) s.job l.self.job s.line l.self.line s.seen l.self.seen t.new.self.seen c.args.text.now.items l.text.items t.new.text.items job line seen text c.in_ok-take_run.ensures.ok) in
    let all : runs_from c.args.last.now ≡ (c.args.last.now.text.now ∷ passed) ++ runs_from run = rw c.in-Some.is at walk.all_is in
    let room = rw c.in-Some.is at walk.room in
    (t.ensures.job ∙ job, t.ensures.line ∙ line, tried.1, tried.2, (passed ++ run.text.now ∷ [], walk_goes run c.before-next-in-Some.result l.buffer c.before-next-in-Some.new.buffer e.none e.some e.bytes e.short e.room room _ (c.args.last.now.text.now ∷ passed) all, none_more s.job.kinds (c.args.last.now.text.now ∷ passed) run.text.now none tried.0, c.see_run.ensures c.args.last.now.text.now passed reports))

pub returns-clause-ok : goal.returns-clause-ok
returns-clause-ok c =
    let s = c.args.self.now in
    let l = c.runs in
    let r = c.refuse_line in
    let (job, line, seen, text, (passed, walk, none, reports)) = c.runs.invariant in
    let texts = c.args.last.now.text.now ∷ passed in
    let all : texts ≡ runs_from c.args.last.now = sym (walk_over (runs_from c.args.last.now) texts l.next l.buffer c.in_default.not-Some walk) in
    let here = on_ok_weaker r.result (λ f. f texts (subst (λ (z : LogJob). AreNone (line_candidates z.kinds texts)) (sym job) none) (subst (λ (z : LogJob). AreReports z.kinds texts l.reports) (sym job) reports)) r.ensures.ok in
    answered_same r.result s.job s.line texts (runs_from c.args.last.now) s.seen r.new.self.seen c.args.text.now.items r.new.text.items all (answered_later r.result s.job l.self.job s.line l.self.line texts s.seen l.self.seen r.new.self.seen c.args.text.now.items l.text.items r.new.text.items job line seen text here)
