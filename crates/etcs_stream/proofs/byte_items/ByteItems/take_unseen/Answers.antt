use Rattle.std.proofs.Common.{◌+◌, refl, arith}
use Rattle.etcs_runs.specs.declared.fault.RunFault.TheVariants as fault
use Rattle.etcs_stream.proofs.Fronts.{stops_here}
use Rattle.etcs_stream.proofs.byte_items.ByteItems.take_unseen.Goals as goal

pub returns-in-Some-clause-err : goal.returns-in-Some-clause-err
returns-in-Some-clause-err c =
    let s = c.args.self.now in
    let few = c.requires.few in
    rw c.refused.ensures
    (stops_here s.job s.reader s.printer c.args.bytes.now _ c.requires.waits s.printer _ (fault.Refused (s.printer.count + 1) c.in-Some.bit c.in-Some.var) (omega (arith, few)) refl (omega arith)
    (refl, few, c.in-Some.ensures))
