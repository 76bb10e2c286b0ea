use Rattle.std.proofs.Common.{◌∙◌, sym}
use Rattle.etcs_log.proofs.Answering.{on_ok, groups_silent, groups_elsewhere, groups_here}
use Rattle.etcs_log.proofs.lines.Answers.write_groups.Goals as goal

pub returns-then-not-self-clause-ok : goal.returns-then-not-self-clause-ok
returns-then-not-self-clause-ok c =
    let s = c.args.self.now in
    groups_silent s.job s.seen.groups c.args.text.now.items c.if-not-self.true

pub returns-then-is_written-clause-ok : goal.returns-then-is_written-clause-ok
returns-then-is_written-clause-ok c =
    let s = c.args.self.now in
    on_ok c.write.result _ (groups_elsewhere s.job s.seen.groups c.args.text.now.items (sym c.is_written.ensures ∙ c.if-is_written.true))

pub returns-else-is_written-clause-ok : goal.returns-else-is_written-clause-ok
returns-else-is_written-clause-ok c =
    let s = c.args.self.now in
    let w = c.write-else-is_written in
    groups_here w.result s.job s.seen.groups c.args.text.now.items w.new.out.items (sym c.is_written.ensures ∙ c.if-is_written.false) c.if-not-self.false w.ensures.ok
