use Rattle.std.proofs.Common.{◌∙◌, sym, refl, arith, length-append}
use Rattle.etcs_bits.specs.Bits.{bits}
use Rattle.etcs_bits.proofs.Positions.{length-bits}
use Rattle.etcs_runs.specs.declared.fault.RunFault.TheVariants as fault
use Rattle.etcs_text.specs.Readers.{seen_bits}
use Rattle.etcs_stream.proofs.Fronts.{stops_here}
use Rattle.etcs_stream.proofs.byte_items.ByteItems.take_front.Goals as goal

pub returns-then-count-eq-MOST_ITEMS-clause-err : goal.returns-then-count-eq-MOST_ITEMS-clause-err
returns-then-count-eq-MOST_ITEMS-clause-err c =
    let s = c.args.self.now in
    stops_here s.job s.reader s.printer c.args.bytes.now _ c.requires.waits s.printer _ fault.Endless c.requires.reported refl (omega arith)
    (sym c.count.ensures ∙ c.if-count-eq-MOST_ITEMS.true, omega (arith, length-append (seen_bits s.reader.progress) (bits c.args.bytes.now), length-bits c.args.bytes.now, c.requires.some))

pub take_unseen-requires-clause-few : goal.take_unseen-requires-clause-few
take_unseen-requires-clause-few c =
    let (same, page) = (rw c.in-Ok-None.field-0-is at c.in-Ok-None.ensures.none) refl in
    rw same (omega (arith, c.requires.reported, c.count.ensures, c.if-count-eq-MOST_ITEMS.false))

pub returns-in-Ok-Some-clause-ok : goal.returns-in-Ok-Some-clause-ok
returns-in-Ok-Some-clause-ok c = rw c.in-Ok-Some.field-0-is at c.in-Ok-Some.ensures.taken

pub returns-in-Ok-None-clause-ok : goal.returns-in-Ok-None-clause-ok
returns-in-Ok-None-clause-ok c =
    let (same, page) = (rw c.in-Ok-None.field-0-is at c.in-Ok-None.ensures.none) refl in
    rw (same, page) at c.take_unseen.ensures.ok

pub returns-in-Ok-None-clause-err : goal.returns-in-Ok-None-clause-err
returns-in-Ok-None-clause-err c =
    let (same, page) = (rw c.in-Ok-None.field-0-is at c.in-Ok-None.ensures.none) refl in
    rw (same, page) at c.take_unseen.ensures.err
