use Rattle.std.proofs.Common.{◌≡◌, ◌++◌, drop}
use Rattle.std.specs.Prelude.{None, IsTrue}
use Rattle.etcs_vars.specs.Reading.{Reading}
use Rattle.etcs_tables.specs.Layouts.{layout, looks}
use Rattle.etcs_rows.specs.Places.{read_of}
use Rattle.etcs_sequence.proofs.sending.send_numbers.Given as goal

-- some are sent, and those of what is left make up the rest
abbrev pub invariant-loop-number : goal.invariant-loop-number
invariant-loop-number g l =
    IsTrue (looks None l.place)
    × (sent : Reading)
    × (l.out ≡ g.S.VarSink.with l.fn.out sent)
    × (sent ++ read_of l.place (drop l.number-index l.numbers) ≡ read_of (layout l.row.items.now) l.numbers)
