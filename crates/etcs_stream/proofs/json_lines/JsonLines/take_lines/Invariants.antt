use Rattle.std.proofs.Common.{◌≡◌, ◌-◌, ◌≤◌}
use Rattle.etcs_runs.specs.Handling.{LinesTaken}
use Rattle.etcs_stream.specs.Stands.{JsonTook}
use Rattle.etcs_stream.proofs.json_lines.JsonLines.take_lines.Given as goal

abbrev pub invariant-loop-at : goal.invariant-loop-at
invariant-loop-at l = record {
  job_is : l.self.job ≡ l.fn.self.job;
  few : l.self.printer.count ≤ 1000000;
  taken : LinesTaken (JsonTook l.fn.self.job l.fn.self.printer) (JsonTook l.fn.self.job l.self.printer) l.rest l.whole l.fn.page l.page l.at l.lines;
}

abbrev pub decreases-loop-at : goal.decreases-loop-at
decreases-loop-at l = l.whole - l.at
