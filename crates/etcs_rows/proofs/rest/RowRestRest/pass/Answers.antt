use Rattle.std.proofs.Common.{refl, arith}
use Rattle.etcs_rows.proofs.rest.RowRestRest.pass.Goals as goal

pub returns-clause-ok : goal.returns-clause-ok
returns-clause-ok c =
    let e = c.continue_with.ensures in
    let len = e.len in
    record { residual = e.left; read = (c.continue_with.new.self.place, c.requires.next, e.after, omega (arith, len), (refl, omega (arith, len))) }
