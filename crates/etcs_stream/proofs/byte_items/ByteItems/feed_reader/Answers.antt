use Rattle.std.proofs.Common.{◌≡◌, ◌+◌, ◌<◌, ◌∙◌, ap, Ok, Err, Result, refl, arith}
use Rattle.std.proofs.lemmas.Result.{err_from_is_err_and}
use Rattle.etcs_bits.specs.Bits.{bits}
use Rattle.etcs_vars.specs.declared.feed.Fed.{Fed}
use Rattle.etcs_vars.specs.declared.feed.Fed.TheVariants.{More, Done}
use Rattle.etcs_vars.specs.declared.feed.ReadFault.{ReadFault}
use Rattle.etcs_vars.specs.declared.feed.ReadFault.TheVariants.{Refused, Ended}
use Rattle.etcs_runs.specs.declared.fault.RunFault.TheVariants as fault
use Rattle.etcs_text.specs.Readers.{Feeds, seen_bits}
use Rattle.etcs_stream.proofs.Fronts.{more_front, done_front, stops_here}
use Rattle.etcs_stream.proofs.Streams.{fed, feed_refuses}
use Rattle.etcs_stream.proofs.byte_items.ByteItems.feed_reader.Goals as goal

pub print-requires-clause-whole : goal.print-requires-clause-whole
print-requires-clause-whole c =
    let s = c.args.self.now in
    let is : ◌≡◌ {A = Result Fed ReadFault} c.feed.result (Ok (Done c.in-Ok-Done.taken)) = c.in-Ok-Done.is ∙ ap Ok c.in-Ok-Done.field-0-is in
    let f = fed s.job.kind s.reader (bits c.args.bytes.now) _ _ _ c.requires.waits is c.feed.ensures.answer in
    (f.0, f.1, f.4.2.0)

pub unreachable-requires : goal.unreachable-requires
unreachable-requires c =
    let s = c.args.self.now in
    let is : ◌≡◌ {A = Result Fed ReadFault} c.feed.result (Err Ended) = c.in-Err-Ended.is ∙ ap Err c.in-Err-Ended.field-0-is in
    fed s.job.kind s.reader (bits c.args.bytes.now) _ _ _ c.requires.waits is c.feed.ensures.answer

pub returns-in-Ok-More-clause-ok : goal.returns-in-Ok-More-clause-ok
returns-in-Ok-More-clause-ok c =
    let s = c.args.self.now in
    let is : ◌≡◌ {A = Result Fed ReadFault} c.feed.result (Ok More) = c.in-Ok-More.is ∙ ap Ok c.in-Ok-More.field-0-is in
    let less : s.printer.count < 1000000 = c.requires.few in
    more_front s.job s.reader s.printer c.args.bytes.now c.args.page.now c.requires.waits c.feed.new.self _ c.feed.ensures.kind c.requires.some less refl
    (fed s.job.kind s.reader (bits c.args.bytes.now) _ _ _ c.requires.waits is c.feed.ensures.answer)

pub returns-in_ok-print-in-Ok-Done-clause-ok : goal.returns-in_ok-print-in-Ok-Done-clause-ok
returns-in_ok-print-in-Ok-Done-clause-ok c =
    let s = c.args.self.now in
    let new = bits c.args.bytes.now in
    let is : ◌≡◌ {A = Result Fed ReadFault} c.feed.result (Ok (Done c.in-Ok-Done.taken)) = c.in-Ok-Done.is ∙ ap Ok c.in-Ok-Done.field-0-is in
    let f : Feeds s.job.kind (seen_bits s.reader.progress) new (Ok (Done c.in-Ok-Done.taken)) c.feed.new.self.progress = fed s.job.kind s.reader new _ _ _ c.requires.waits is c.feed.ensures.answer in
    let less : s.printer.count < 1000000 = c.requires.few in
    let printed = c.in_ok-print-in-Ok-Done.ensures in
    done_front s.job s.reader s.printer c.args.bytes.now c.args.page.now c.requires.waits c.feed.new.self c.print.new.self.reader c.print.new.self.printer c.print.new.page c.in-Ok-Done.taken f printed.next printed.reported less (printed.ok f.0 f.1)

pub returns-in-Err-Refused-clause-err : goal.returns-in-Err-Refused-clause-err
returns-in-Err-Refused-clause-err c =
    let s = c.args.self.now in
    let new = bits c.args.bytes.now in
    let is : ◌≡◌ {A = Result Fed ReadFault} c.feed.result (Err (Refused c.in-Err-Refused.bit c.in-Err-Refused.var)) = c.in-Err-Refused.is ∙ ap Err c.in-Err-Refused.field-0-is in
    let f = fed s.job.kind s.reader new _ _ _ c.requires.waits is c.feed.ensures.answer in
    let less : s.printer.count < 1000000 = c.requires.few in
    rw c.refused.ensures
    (stops_here s.job s.reader s.printer c.args.bytes.now _ c.requires.waits s.printer _ (fault.Refused (s.printer.count + 1) c.in-Err-Refused.bit c.in-Err-Refused.var) (omega (arith, c.requires.few)) refl (omega arith)
    (refl, less, feed_refuses s.job.kind (seen_bits s.reader.progress) new _ _ c.feed.new.self.progress f))

pub returns-in-Err-Memory-clause-err : goal.returns-in-Err-Memory-clause-err
returns-in-Err-Memory-clause-err c =
    let s = c.args.self.now in
    stops_here s.job s.reader s.printer c.args.bytes.now _ c.requires.waits s.printer _ fault.Memory (omega (arith, c.requires.few)) refl (omega arith) tt

pub returns-in_err-print-in-Ok-Done-clause-err : goal.returns-in_err-print-in-Ok-Done-clause-err
returns-in_err-print-in-Ok-Done-clause-err c =
    let s = c.args.self.now in
    let p = err_from_is_err_and c.from_residual.result c.from_residual.ensures.1 in
    let e = c.in_err-print-in-Ok-Done.ensures.err in
    rw (p.1, p.2, e.0)
    (stops_here s.job s.reader s.printer c.args.bytes.now _ c.requires.waits c.print.new.self.printer _ fault.Memory (omega (arith, c.requires.few)) e.1 (omega (arith, c.print.ensures.reported)) tt)
