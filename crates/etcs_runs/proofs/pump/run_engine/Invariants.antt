use Rattle.std.proofs.Common.{◌≡◌, ◌≤◌, List, length, ℕ}
use Rattle.etcs_runs.specs.Passes.{counted}
use Rattle.etcs_runs.proofs.Running.{Going}
use Rattle.etcs_runs.proofs.pump.run_engine.Given as goal

abbrev pub invariant-loop : goal.invariant-loop
invariant-loop g l = record {
  given : List ℕ;
  output : List ℕ;
  going : Going g.S.Source g.W.Sink l.fn.source l.source l.fn.sink l.sink l.counter given output;
  least : l.counter ≤ length given;
  stands : g.E.Engine.stands l.engine given output;
  job : g.E.Engine.job l.engine ≡ g.E.Engine.job l.fn.engine;
  sent : l.sent ≡ counted (length output);
  room : length l.buffer ≡ 4096;
}
