use Rattle.std.proofs.Common.{drop}
use Rattle.etcs_tables.specs.Layouts.{layout}
use Rattle.etcs_rows.specs.Writing.{Appends}
use Rattle.etcs_rows.proofs.write.write_row.Given as goal

abbrev pub invariant-loop-number : goal.invariant-loop-number
invariant-loop-number l = Appends (layout l.row.items.now) l.place l.fields (drop l.number-index l.fields) l.fn.out l.out
