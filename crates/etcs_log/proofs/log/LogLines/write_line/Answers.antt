use Rattle.std.proofs.Common.{◌+◌, [], arith}
use Rattle.std.proofs.lemmas.Result.{on_ok_weaker}
use Rattle.etcs_log.specs.declared.notes.Note.TheVariants.{TooLong}
use Rattle.etcs_log.specs.Logs.{bad}
use Rattle.etcs_log.proofs.Counting.{long_line}
use Rattle.etcs_log.proofs.log.LogLines.write_line.Goals as goal

pub returns-then-line-gt-MOST_LINE-clause-ok : goal.returns-then-line-gt-MOST_LINE-clause-ok
returns-then-line-gt-MOST_LINE-clause-ok c =
    let s = c.args.self.now.answers in
    on_ok_weaker c.refuse.result (λ noted. (bad TooLong, long_line s.job c.args.line.now (omega arith), noted)) (rw c.clear.ensures.items at c.refuse.ensures.ok)

pub returns-clause-ok : goal.returns-clause-ok
returns-clause-ok c = rw c.clear.ensures.items at c.take.ensures.ok
