use Rattle.etcs_rows.proofs.RestLemmas.{row_after}
use Rattle.etcs_rows.proofs.rest.RowRest.pass_admitted.Goals as goal

pub returns-clause-left : goal.returns-clause-left
returns-clause-left c =
    let s = c.args.self.now in
    let b = row_after s.place c.pass.new.self c.args.var s.len c.args.number c.requires.next s.looks_well c.pass.ensures.left c.requires.admitted c.requires.room in
    rw c.width.ensures b.1

pub returns-clause-after : goal.returns-clause-after
returns-clause-after c =
    let s = c.args.self.now in
    (row_after s.place c.pass.new.self c.args.var s.len c.args.number c.requires.next s.looks_well c.pass.ensures.left c.requires.admitted c.requires.room).0
