use Rattle.std.proofs.Common.{◌≡◌, ◌++◌, List, length, ℕ}
use Rattle.etcs_runs.specs.Cutting.{Stands}
use Rattle.etcs_runs.proofs.cutter.LinesEngine.feed.Given as goal

abbrev pub invariant-loop-line : goal.invariant-loop-line
invariant-loop-line g l = record {
  front : List ℕ;
  job_is : g.T.LineHandler.job l.self.handler ≡ g.T.LineHandler.job l.fn.self.handler;
  all : l.piece ≡ front ++ l.rest;
  stands : (given output : List ℕ) → Stands g.T.LineHandler l.fn.self given output → Stands g.T.LineHandler l.self (given ++ front) (output ++ l.page);
}

abbrev pub decreases-loop-line : goal.decreases-loop-line
decreases-loop-line g l = length l.rest
