use Rattle.std.proofs.Common.{◌^◌, ◌∙◌, subst}
use Rattle.etcs_runs.specs.Runs.{Ran}
use Rattle.etcs_log.specs.declared.job.LogJob.{LogJob}
use Rattle.etcs_log.specs.Promised.{log_promises}
use Rattle.std.specs.Io.KnownBytes.{IsAtEnd}
use Rattle.etcs_log.proofs.Endings.{one_of, faults_are, endless_of}
use Rattle.etcs_log.proofs.runs.run_log.Goals as goal

pub returns : goal.returns
returns g c =
    let job = c.args.job in
    let s = g.S.Source in
    let w = g.W.Sink in
    let old = c.args.source.now in
    let new = c.run_engine-ended.new.source in
    let sink = c.args.sink.now in
    let sink' = c.run_engine-ended.new.sink in
    let left = s.remaining old in
    let left' = s.remaining new in
    let held = w.contents sink in
    let held' = w.contents sink' in
    let result = c.run_engine-ended.result in
    let ran = subst (λ (j : LogJob). Ran (log_promises j) (2 ^ 49) left left' (s.reads old) (s.reads new) (s.failures old) (s.failures new) held held' (w.failures sink) (w.failures sink') (w.flushes sink) (w.flushes sink') result) (c.new-2.ensures.job ∙ c.new.ensures.job) c.run_engine-ended.ensures.ran in
    record {
      ok = ran.ok;
      at_end = ran.at_end;
      one = one_of (IsAtEnd left') result (s.failures old) (s.failures new) (w.failures sink) (w.failures sink') ran.at_end ran.failures;
      faults = faults_are job left left' held held' (s.reads old) (s.reads new) (2 ^ 49) result ran.engine;
      read = ran.read;
      write = ran.write;
      endless = endless_of job left left' held held' (s.reads old) (s.reads new) (2 ^ 49) result ran.engine;
      memory = ran.memory;
      flushed = ran.flushed;
      unflushed = ran.unflushed;
      reads = ran.few_reads;
      failures = ran.failures;
      pieces = ran.pieces;
    }
