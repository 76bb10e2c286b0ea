use Rattle.std.proofs.Common.{refl}
use Rattle.etcs_rows.proofs.RowWalkLemmas.{start_viable}
use Rattle.etcs_rows.proofs.rest.RowRest.start.Goals as goal

pub returns-clause-rest : goal.returns-clause-rest
returns-clause-rest c =
    let v = start_viable c.start-place.result c.args.len (c.reaches.ensures.0 c.if-not-reaches.false) in
    (c.start-place.ensures.left, refl, (v.0, v.2))
