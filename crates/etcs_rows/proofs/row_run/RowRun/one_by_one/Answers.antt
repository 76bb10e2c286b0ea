use Rattle.std.proofs.Common.{refl}
use Rattle.etcs_bits.specs.Bits.{bits}
use Rattle.etcs_tables.specs.Layouts.{ReadsIn}
use Rattle.etcs_reader.proofs.Parts.{goes_after}
use Rattle.etcs_rows.proofs.RowWalkLemmas.{start_viable}
use Rattle.etcs_rows.proofs.RunLemmas.{no_run, run_more}
use Rattle.etcs_rows.proofs.row_run.RowRun.one_by_one.Goals as goal

pub loop-var-init : goal.loop-var-init
loop-var-init c =
    let row = c.args.row.now in
    let v = start_viable row.place row.len (c.reaches.ensures.0 c.if-not-reaches.false) in
    record {
      run = rw c.new.ensures (no_run row.place row.len (bits c.args.piece.now) c.args.at c.copied.result.place c.copied.result.len c.requires.inside c.copied.ensures.place c.copied.ensures.len);
      goes = rw (c.copied.ensures.place, c.copied.ensures.len) (v.0, v.2);
    }

pub loop-var-preserved : goal.loop-var-preserved
loop-var-preserved c =
    let row = c.args.row.now in
    let r = c.loop-var.run in
    let new = c.continue_with.new.self in
    let e = c.continue_with.ensures in
    record {
      run = rw (c.width.ensures, c.push.ensures.items) (run_more row.place row.len (bits c.args.piece.now) c.args.at r.bits r.numbers.items r.rest.place r.rest.len c.in-Some.var c.in-Some.number new.place new.len c.loop-var.invariant.run c.in-Some.ensures.next e.after e.len e.left);
      goes = goes_after (ReadsIn r.rest.place r.rest.len) (ReadsIn new.place new.len) c.in-Some.var c.in-Some.number 0 refl e.left c.in-Some.ensures.starts;
    }
