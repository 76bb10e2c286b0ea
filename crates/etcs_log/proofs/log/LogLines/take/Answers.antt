use Rattle.std.proofs.Common.{◌+◌}
use Rattle.std.proofs.lemmas.Result.{on_ok_weaker}
use Rattle.etcs_log.proofs.Counting.{answered_on}
use Rattle.etcs_log.proofs.log.LogLines.take.Goals as goal

pub returns-clause-ok : goal.returns-clause-ok
returns-clause-ok c =
    let s = c.args.self.now.answers in
    let w = c.write_line.new.self in
    rw c.pass_on.ensures.answers (on_ok_weaker c.pass_on.result (λ added. answered_on s.job (s.line + 1) c.args.line.now s.seen w.answers.seen w.text.items c.args.page.now c.pass_on.new.page c.in_ok-write_line.ensures.ok added) c.pass_on.ensures.ok)
