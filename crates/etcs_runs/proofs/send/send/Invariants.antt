use Rattle.std.proofs.Common.{◌≡◌, ◌-◌, ◌+◌, ◌≤◌, length, take}
use Rattle.std.specs.Io.KnownBytes.{Appends}
use Rattle.etcs_runs.proofs.send.send.Given as goal

abbrev pub invariant-loop-at : goal.invariant-loop-at
invariant-loop-at g l = record {
  within : l.at ≤ length l.text;
  failures : g.W.Sink.failures l.sink ≡ g.W.Sink.failures l.fn.sink;
  flushes : g.W.Sink.flushes l.sink ≡ g.W.Sink.flushes l.fn.sink;
  sent : l.sent ≡ l.fn.sent + l.at;
  appends : Appends (g.W.Sink.contents l.fn.sink) (g.W.Sink.contents l.sink) (take l.at l.text);
}

abbrev pub decreases-loop-at : goal.decreases-loop-at
decreases-loop-at g l = length l.text - l.at
