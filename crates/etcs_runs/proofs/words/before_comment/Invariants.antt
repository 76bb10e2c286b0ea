use Rattle.etcs_runs.proofs.Comments.{Passed}
use Rattle.etcs_runs.proofs.words.before_comment.Given as goal

abbrev pub invariant-loop-at : goal.invariant-loop-at
invariant-loop-at l = Passed l.line l.at
