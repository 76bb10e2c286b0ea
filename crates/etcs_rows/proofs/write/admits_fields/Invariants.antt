use Rattle.std.proofs.Common.{drop}
use Rattle.etcs_tables.specs.Layouts.{layout}
use Rattle.etcs_rows.specs.Writing.{Admits}
use Rattle.etcs_rows.proofs.write.admits_fields.Given as goal

abbrev pub invariant-loop-number : goal.invariant-loop-number
invariant-loop-number l = Admits (layout l.row.items.now) l.place l.fields (drop l.number-index l.fields) l.taken
