use Rattle.std.specs.Io.KnownBytes.{IsAtEnd}
use Rattle.etcs_runs.proofs.Keeping.{then_err}
use Rattle.etcs_stream.proofs.Shortness.{counted_first, counted_flush}
use Rattle.etcs_stream.proofs.runs.run.Goals as goal

pub returns : goal.returns
returns g c =
    let ran = c.run_form.ensures in
    let left = g.S.Source.remaining c.args.source.now in
    let left' = g.S.Source.remaining c.run_form.new.source in
    let held = g.W.Sink.contents c.args.sink.now in
    let held' = g.W.Sink.contents c.run_form.new.sink in
    let job = c.args.job in
    let at = IsAtEnd left' in
    record { ok = ran.ok; at_end = ran.at_end; engine = ran.engine; read = ran.read; write = λ n e. counted_first job at left left' held held' n (ran.write n e); flushed = ran.flushed; unflushed = then_err c.run_form.result _ _ (counted_flush job at left left' held held' (g.W.Sink.flushes c.args.sink.now) (g.W.Sink.flushes c.run_form.new.sink)) ran.unflushed; reads = ran.few_reads; memory = ran.memory; failures = ran.failures; pieces = ran.pieces }
