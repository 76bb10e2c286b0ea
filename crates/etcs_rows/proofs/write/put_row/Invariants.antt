use Rattle.std.proofs.Common.{drop}
use Rattle.etcs_bits.specs.Bits.{bits}
use Rattle.etcs_tables.specs.Layouts.{layout}
use Rattle.etcs_rows.specs.Writing.{Puts}
use Rattle.etcs_rows.proofs.write.put_row.Given as goal

abbrev pub invariant-loop-number : goal.invariant-loop-number
invariant-loop-number l = Puts (layout l.row.items.now) l.place l.fields (drop l.number-index l.fields) l.start (bits l.fn.bytes) l.at (bits l.bytes)
