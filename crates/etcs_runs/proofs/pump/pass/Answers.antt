use Rattle.std.proofs.Common.{◌++◌, length, inr}
use Rattle.std.proofs.lemmas.Result.{err_from_is_err_and}
use Rattle.etcs_runs.proofs.Printing.{fed_prints}
use Rattle.etcs_runs.proofs.pump.pass.Goals as goal

pub returns-in_err-write_all-clause-err : goal.returns-in_err-write_all-clause-err
returns-in_err-write_all-clause-err g c = λ given output stands sent.
    let e = g.E.Engine in
    let met = g.met.E.Engine in
    let job = e.job c.args.engine.now in
    let bytes = given ++ c.args.piece.now in
    let fed = c.feed-fed.ensures in
    let s = c.feed-fed.new.self in
    let text = output ++ c.feed-fed.new.page in
    let r = err_from_is_err_and c.from_residual.result c.from_residual.ensures.1 in
    let prints = fed_prints e.promises job (e.job s) bytes text (e.stands s bytes text) c.feed-fed.result (met.sound c.args.engine.now) fed.job (met.stands_outputs s bytes text) (fed.ok given output stands) (fed.err given output stands) in
    let why = c.in_err-write_all.ensures in
    rw (r.1, r.2) (inr (rw c.as_slice.ensures at (why.part (length output) sent), prints, why.one))
