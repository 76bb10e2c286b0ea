use Rattle.std.proofs.Common.{arith, [], ◌++◌, take, rules, ◌∙◌, refl, length-append}
use Rattle.std.specs.Prelude.{◌⊎◌}
use Rattle.std.proofs.lemmas.Result.{err_from_is_err_and}
use Rattle.etcs_runs.specs.Promises.{EndsWhole}
use Rattle.etcs_runs.proofs.Endings.{said_if, said_of}
use Rattle.etcs_runs.proofs.Running.{begun, few_given, piece_long, read_more, read_none, written, read_failed, endless, passed_not, closed}
use Rattle.etcs_runs.proofs.pump.run_engine.Goals as goal

pub loop-init : goal.loop-init
loop-init g c = record { given = []; output = []; going = begun g.S.Source g.W.Sink c.args.source.now c.args.sink.now; least = omega arith; stands = c.requires.fresh; job = refl; sent = refl; room = search rules }

pub read_wanted-requires-clause-more_reads : goal.read_wanted-requires-clause-more_reads
read_wanted-requires-clause-more_reads g c = omega (arith, c.loop.invariant.going.reads_are, c.requires.reads, c.requires.few, c.loop-test.true)

pub read_wanted-requires-clause-more_failures : goal.read_wanted-requires-clause-more_failures
read_wanted-requires-clause-more_failures g c = omega (arith, c.loop.invariant.going.missed_are, c.requires.read_failures)

pub close-requires-clause-stands : goal.close-requires-clause-stands
close-requires-clause-stands g c =
    let i = c.loop.invariant in
    (i.given, i.output, i.stands, few_given i.going (omega (arith, c.loop-test.true, c.requires.few)))

pub pass-requires-clause-stands : goal.pass-requires-clause-stands
pass-requires-clause-stands g c =
    let i = c.loop.invariant in
    (i.given, i.output, i.stands, omega (arith, c.loop-test.true, c.requires.few, i.going.most, (piece_long c.in-Ok.count c.read_wanted.new.buffer (c.read_wanted.auto.buffer ∙ i.room) c.in-Ok.ensures.bound.0).1))

pub loop-preserved : goal.loop-preserved
loop-preserved g c =
    let i = c.loop.invariant in
    let read = c.in-Ok.ensures in
    let piece = take c.in-Ok.count c.read_wanted.new.buffer in
    let room = c.read_wanted.auto.buffer ∙ i.room in
    let passed = c.in_ok-pass.ensures.ok i.given i.output i.stands i.sent in
    record {
      given = i.given ++ piece;
      output = i.output ++ c.pass.new.page;
      going = written (read_more i.going c.read_wanted.new.source c.in-Ok.count c.read_wanted.new.buffer room read.bound.0 read.bytes.0 c.read_wanted.ensures.counted read.failed) c.pass.new.sink c.pass.new.page passed.1 c.pass.ensures.unflushed;
      least = omega (arith, i.least, length-append i.given piece, (piece_long c.in-Ok.count c.read_wanted.new.buffer room read.bound.0).0, c.if-count-eq0.false);
      stands = passed.0;
      job = c.pass.ensures.job ∙ i.job;
      sent = passed.2;
      room = room;
    }

pub returns-in-Err-clause-ran : goal.returns-in-Err-clause-ran
returns-in-Err-clause-ran g c =
    let i = c.loop.invariant in
    let p = g.E.Engine.promises (g.E.Engine.job c.args.engine.now) in
    let outputs = rw i.job at (g.met.E.Engine.stands_outputs c.loop.engine i.given i.output i.stands) in
    read_failed i.going p c.args.most_reads outputs c.read_wanted.new.source c.loop-test.true c.in-Err.ensures.bytes c.read_wanted.ensures.counted c.in-Err.ensures.failed

pub returns-then-count-eq0-clause-ran : goal.returns-then-count-eq0-clause-ran
returns-then-count-eq0-clause-ran g c =
    let i = c.loop.invariant in
    let p = g.E.Engine.promises (g.E.Engine.job c.args.engine.now) in
    let outputs = rw i.job at (g.met.E.Engine.stands_outputs c.loop.engine i.given i.output i.stands) in
    let read = c.in-Ok.ensures in
    let close = c.close.ensures in
    let at = read.bytes.1 c.if-count-eq0.true (omega (arith, c.read_wanted.auto.buffer, i.room)) in
    closed (read_none i.going c.read_wanted.new.source c.in-Ok.count c.read_wanted.new.buffer (c.read_wanted.auto.buffer ∙ i.room) c.if-count-eq0.true read.bytes.0 c.read_wanted.ensures.counted read.failed) p c.args.most_reads (g.met.E.Engine.sound c.args.engine.now) outputs (omega (arith, c.loop-test.true)) at c.close.new.sink c.close.new.page c.close.result
    (rw i.job at close.ok i.given i.output i.stands i.sent) (rw i.job at close.err i.given i.output i.stands i.sent) close.uncounted close.flushed (rw i.job at close.unflushed i.given i.output i.stands i.sent)

pub returns-in_err-pass-clause-ran : goal.returns-in_err-pass-clause-ran
returns-in_err-pass-clause-ran g c =
    let i = c.loop.invariant in
    let p = g.E.Engine.promises (g.E.Engine.job c.args.engine.now) in
    let outputs = rw i.job at (g.met.E.Engine.stands_outputs c.loop.engine i.given i.output i.stands) in
    let read = c.in-Ok.ensures in
    let r = err_from_is_err_and c.from_residual.result c.from_residual.ensures.1 in
    let passed = c.in_err-pass.ensures in
    rw (r.1, r.2) (passed_not i.going p c.args.most_reads (g.met.E.Engine.sound c.args.engine.now) outputs c.loop-test.true c.read_wanted.new.source c.pass.new.sink c.in-Ok.count c.read_wanted.new.buffer c.pass.new.page (c.read_wanted.auto.buffer ∙ i.room) read.bound.0 read.bytes.0 c.read_wanted.ensures.counted read.failed c.in_err-pass.field-0.0 (rw i.job at passed.err i.given i.output i.stands i.sent) passed.uncounted c.pass.ensures.unflushed)

pub returns-clause-ran : goal.returns-clause-ran
returns-clause-ran g c =
    let i = c.loop.invariant in
    let p = g.E.Engine.promises (g.E.Engine.job c.args.engine.now) in
    let outputs = rw i.job at (g.met.E.Engine.stands_outputs c.loop.engine i.given i.output i.stands) in
    endless i.going p c.args.most_reads outputs i.least (omega arith)

pub returns-then-count-eq0-clause-said : goal.returns-then-count-eq0-clause-said
returns-then-count-eq0-clause-said g c =
    let i = c.loop.invariant in
    let p = g.E.Engine.promises (g.E.Engine.job c.args.engine.now) in
    let read = c.in-Ok.ensures in
    let at = read_none i.going c.read_wanted.new.source c.in-Ok.count c.read_wanted.new.buffer (c.read_wanted.auto.buffer ∙ i.room) c.if-count-eq0.true read.bytes.0 c.read_wanted.ensures.counted read.failed in
    said_if g.W.Sink _ _ _ c.loop.sink c.close.new.sink i.given i.output c.close.new.page at.consumes at.appends (p.StopsAtEnd i.given) (λ t. p.Prints i.given t ⊎ EndsWhole p i.given t) (g.E.Engine.said c.close.new.engine) c.close.result (rw i.job at c.close.ensures.err i.given i.output i.stands i.sent) (c.close.ensures.said i.given i.output i.stands)

pub returns-in_err-pass-clause-said : goal.returns-in_err-pass-clause-said
returns-in_err-pass-clause-said g c =
    let i = c.loop.invariant in
    let p = g.E.Engine.promises (g.E.Engine.job c.args.engine.now) in
    let given = i.given ++ take c.in-Ok.count c.read_wanted.new.buffer in
    let read = c.in-Ok.ensures in
    let r = err_from_is_err_and c.from_residual.result c.from_residual.ensures.1 in
    let at = read_more i.going c.read_wanted.new.source c.in-Ok.count c.read_wanted.new.buffer (c.read_wanted.auto.buffer ∙ i.room) read.bound.0 read.bytes.0 c.read_wanted.ensures.counted read.failed in
    rw (r.1, r.2) (said_of g.W.Sink _ _ _ c.loop.sink c.pass.new.sink given i.output c.pass.new.page at.consumes at.appends (p.Stops given) (p.Prints given) (g.E.Engine.said c.pass.new.engine) c.in_err-pass.field-0.0 (rw i.job at c.in_err-pass.ensures.err i.given i.output i.stands i.sent) (c.in_err-pass.ensures.said i.given i.output i.stands))
