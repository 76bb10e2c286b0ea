use Rattle.std.proofs.Common.{refl}
use Rattle.etcs_stream.proofs.printer.Printer.print_line.Goals as goal

pub returns-then-written-clause-ok : goal.returns-then-written-clause-ok
returns-then-written-clause-ok c e outcome encoded line = rw (← c.self.view_is) (c.in_ok-written.ensures.ok _ e refl outcome encoded line)
