use Rattle.std.proofs.Common.{refl}
use Rattle.etcs_stream.proofs.printer.Printer.close_group.Goals as goal

pub returns-clause-ok : goal.returns-clause-ok
returns-clause-ok c =
    let lines = c.in_ok-last_lines.ensures.ok in
    rw (← c.self.view_is) (lines.0, (lines.1, refl, refl, c.is_complete.ensures), lines.2)
