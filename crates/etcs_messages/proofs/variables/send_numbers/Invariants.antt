use Rattle.std.proofs.Common.{◌≡◌, List, Some, take}
use Rattle.etcs_vars.specs.declared.var.Var.{Var}
use Rattle.etcs_vars.specs.Reading.{Reading}
use Rattle.etcs_sequence.specs.Labels.{labelled}
use Rattle.etcs_messages.specs.Lefts.{front_row}
use Rattle.etcs_messages.proofs.variables.send_numbers.Given as goal

abbrev pub invariant-loop-at : goal.invariant-loop-at
invariant-loop-at g l =
    ((sent : Reading) × (l.out ≡ g.S.VarSink.with l.fn.out sent))
    × ((vars : List Var) → front_row l.way l.nid ≡ Some vars → l.out ≡ g.S.VarSink.with l.fn.out (labelled vars (take l.at l.numbers)))
