use Rattle.etcs_rows.proofs.RestLemmas.{row_admits}
use Rattle.etcs_rows.proofs.rest.RowRest.continue_with.Goals as goal

pub pass_admitted-requires-clause-admitted : goal.pass_admitted-requires-clause-admitted
pass_admitted-requires-clause-admitted c =
    let s = c.args.self.now in
    (row_admits s.place c.args.var s.len c.args.number c.requires.next c.requires.goes).1

pub pass_admitted-requires-clause-room : goal.pass_admitted-requires-clause-room
pass_admitted-requires-clause-room c =
    let s = c.args.self.now in
    (row_admits s.place c.args.var s.len c.args.number c.requires.next c.requires.goes).0
