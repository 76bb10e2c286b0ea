use Rattle.std.proofs.Common.{◌-◌}
use Rattle.arrayvec.specs.ArrayVec.{array_vec_len}
use Rattle.etcs_bits.specs.Bits.{bits}
use Rattle.etcs_reader.specs.Rests.{Goes}
use Rattle.etcs_tables.specs.Layouts.{ReadsIn}
use Rattle.etcs_rows.specs.Runs.{RunsTo}
use Rattle.etcs_rows.proofs.row_run.RowRun.one_by_one.Given as goal

abbrev pub invariant-loop-var : goal.invariant-loop-var
invariant-loop-var l = record {
  run : RunsTo l.fn.row.place l.fn.row.len (bits l.fn.piece) l.at l.run.bits l.run.numbers.items l.run.rest.place l.run.rest.len;
  goes : Goes (ReadsIn l.run.rest.place l.run.rest.len);
}

abbrev pub decreases-loop-var : goal.decreases-loop-var
decreases-loop-var l = 32 - array_vec_len l.run.numbers
