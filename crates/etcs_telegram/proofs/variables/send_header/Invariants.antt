use Rattle.std.proofs.Common.{◌≡◌, take}
use Rattle.etcs_tables.specs.Headers.{header_row}
use Rattle.etcs_sequence.specs.Labels.{labelled}
use Rattle.etcs_telegram.proofs.variables.send_header.Given as goal

abbrev pub invariant-loop-at : goal.invariant-loop-at
invariant-loop-at g l = l.out ≡ g.S.VarSink.with l.fn.out (labelled header_row (take l.at l.numbers))
