use Rattle.std.proofs.Common.{refl}
use Rattle.etcs_stream.proofs.printer.Printer.print_alone.Goals as goal

pub returns-clause-ok : goal.returns-clause-ok
returns-clause-ok c = rw (← c.self.view_is) (c.write_alone.ensures.ok _ refl)
