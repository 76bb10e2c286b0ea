use Rattle.std.proofs.Common.{refl, arith}
use Rattle.etcs_runs.specs.declared.fault.RunFault.TheVariants as fault
use Rattle.etcs_text.specs.Readers.{seen_bits}
use Rattle.etcs_stream.proofs.Fronts.{seen_fronts, stops_here}
use Rattle.etcs_stream.proofs.byte_items.take_seen.Goals as goal

pub returns-in-Ok-clause-taken : goal.returns-in-Ok-clause-taken
returns-in-Ok-clause-taken c =
    let r = c.args.reader.now in
    seen_fronts c.args.job r c.args.printer.now c.args.bytes.now c.args.page.now c.requires.waits c.in-Ok.taken (omega (arith, c.if-bits_seen-gt0.false, c.bits_seen.ensures (seen_bits r.progress) c.requires.waits.progress_is)) c.print_seen.new.self c.print_seen.new.page c.requires.few c.in-Ok.ensures.count c.in-Ok.ensures.some

pub returns-in-Err-clause-err : goal.returns-in-Err-clause-err
returns-in-Err-clause-err c =
    let (same, page) = c.in-Err.ensures.err in
    let few = c.requires.few in
    rw (same, page) (stops_here c.args.job c.args.reader.now c.args.printer.now c.args.bytes.now _ c.requires.waits c.args.printer.now _ fault.Memory (omega (arith, few)) refl (omega arith) tt)
