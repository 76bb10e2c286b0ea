use Rattle.std.proofs.Common.{◌∙◌, refl, sym}
use Rattle.etcs_log.proofs.Answering.{on_ok, counts_silent, counts_elsewhere, counts_here}
use Rattle.etcs_log.proofs.lines.Answers.write_counts.Goals as goal

pub returns-then-not-self-clause-ok : goal.returns-then-not-self-clause-ok
returns-then-not-self-clause-ok c =
    let s = c.args.self.now in
    counts_silent s.job s.seen.tally c.args.text.now.items c.args.text.now.items c.if-not-self.true refl

pub returns-then-is_written-clause-ok : goal.returns-then-is_written-clause-ok
returns-then-is_written-clause-ok c =
    let s = c.args.self.now in
    on_ok c.write_tally.result _ (counts_elsewhere s.job s.seen.tally c.args.text.now.items c.args.text.now.items (sym c.is_written.ensures ∙ c.if-is_written.true) refl)

pub returns-else-is_written-clause-ok : goal.returns-else-is_written-clause-ok
returns-else-is_written-clause-ok c =
    let s = c.args.self.now in
    counts_here c.write_tally-else-is_written.result s.job s.seen.tally c.args.text.now.items c.write_tally-else-is_written.new.out.items _ (sym c.is_written.ensures ∙ c.if-is_written.false) c.if-not-self.false c.write_tally-else-is_written.ensures
