use Rattle.std.proofs.Common.{[], refl, sym, subst}
use Rattle.etcs_tables.specs.Layouts.{Layout, Lengths}
use Rattle.etcs_rows.proofs.RowWalkLemmas.{start_viable}
use Rattle.etcs_rows.proofs.rest.RowRest.begin.Goals as goal

pub returns : goal.returns
returns c =
    let v = start_viable c.start.result c.args.len (subst (λ (x : Layout). Lengths x [] c.args.len) (sym c.start.ensures.left) c.requires) in
    (c.start.ensures.left, refl, (v.0, v.2))
