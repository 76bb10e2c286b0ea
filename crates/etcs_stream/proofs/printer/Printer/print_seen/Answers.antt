use Rattle.std.proofs.Common.{refl}
use Rattle.etcs_stream.proofs.printer.Printer.print_seen.Goals as goal

pub returns-then-is_some-clause-some : goal.returns-then-is_some-clause-some
returns-then-is_some-clause-some c = rw (← c.self.view_is) (c.in_ok-taken.ensures.some _ refl)
