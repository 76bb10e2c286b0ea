use Rattle.std.proofs.Common.{◌++◌, length, inr}
use Rattle.std.proofs.lemmas.Result.{err_from_is_err_and}
use Rattle.etcs_runs.proofs.Printing.{finished_prints}
use Rattle.etcs_runs.proofs.pump.close.Goals as goal

pub returns-in_err-write_all-clause-err : goal.returns-in_err-write_all-clause-err
returns-in_err-write_all-clause-err g c = λ given output stands sent.
    let e = g.E.Engine in
    let p = e.promises (e.job c.args.engine.now) in
    let finished = c.finish-finished in
    let text = output ++ finished.new.page in
    let prints = finished_prints p given text finished.result (g.met.E.Engine.sound c.args.engine.now) (finished.ensures.ok given output stands) (finished.ensures.err given output stands) in
    let r = err_from_is_err_and c.from_residual.result c.from_residual.ensures.1 in
    let why = c.in_err-write_all.ensures in
    rw (r.1, r.2) (inr (rw c.as_slice.ensures at (why.part (length output) sent), prints, why.one))
