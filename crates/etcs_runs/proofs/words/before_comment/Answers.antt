use Rattle.std.proofs.Common.{arith}
use Rattle.etcs_runs.proofs.Comments.{to_mark, unmarked_line}
use Rattle.etcs_runs.proofs.words.before_comment.Goals as goal

pub returns-in_err-mark-clause-none : goal.returns-in_err-mark-clause-none
returns-in_err-mark-clause-none c = λ h. unmarked_line c.args.line.now c.in_err-mark.ensures

pub loop-at-init : goal.loop-at-init
loop-at-init c = rw c.saturating_sub-at.ensures (to_mark c.args.line.now c.in_ok-mark.mark (omega (arith, (c.in_ok-mark.ensures).0.high)) (c.in_ok-mark.ensures).0.before)
