use Rattle.etcs_bits.specs.Bits.{bits}
use Rattle.etcs_rows.proofs.RowWalkLemmas.{start_viable}
use Rattle.etcs_rows.proofs.RunLemmas.{no_run, run_more}
use Rattle.etcs_rows.proofs.row_run.RowRun.ahead.Goals as goal

pub loop-var-init : goal.loop-var-init
loop-var-init c = record { run = rw c.new.ensures (no_run c.args.row.now.place c.args.row.now.len (bits c.args.piece.now) c.args.at c.copied.result.place c.copied.result.len c.requires.inside c.copied.ensures.place c.copied.ensures.len) }

pub loop-var-preserved : goal.loop-var-preserved
loop-var-preserved c =
    let row = c.args.row.now in
    let r = c.loop-var.run in
    let new = c.pass_admitted.new.self in
    let e = c.pass_admitted.ensures in
    record { run = rw (c.width.ensures, c.push.ensures.items) (run_more row.place row.len (bits c.args.piece.now) c.args.at r.bits r.numbers.items r.rest.place r.rest.len c.in-Some.var c.in-Some.number new.place new.len c.loop-var.invariant.run c.in-Some.ensures.next e.after e.len e.left) }

pub returns-clause-goes : goal.returns-clause-goes
returns-clause-goes c =
    let rest = c.loop-var.run.rest in
    let v = start_viable rest.place rest.len (c.reaches.ensures.0 c.if-not-reaches.false) in
    (v.0, v.2)
