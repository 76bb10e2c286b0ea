use Rattle.etcs_rows.proofs.ExactLemmas.{row_exact}
use Rattle.etcs_rows.proofs.rest.RowRest.here.Goals as goal

pub returns-clause-exactly : goal.returns-clause-exactly
returns-clause-exactly c x first = (let s = c.args.self.now in rw c.copied.ensures (row_exact c.args.nid s.place s.len x first s.short))
