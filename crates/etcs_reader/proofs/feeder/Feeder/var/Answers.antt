use Rattle.std.proofs.Common.{sym, ◌∙◌}
use Rattle.etcs_reader.proofs.Parts.{unfinished_next, unfinished_short, unfinished_ended, none_is}
use Rattle.etcs_reader.proofs.feeder.Feeder.var.Goals as goal

pub returns-clause-holds : goal.returns-clause-holds
returns-clause-holds g c =
    let s = c.self.inside.reader in
    rw (← c.self.view_is) (λ going. unfinished_next (g.R.Rest.left s.rest) (g.met.R.Rest.regular s.rest) (g.R.Rest.next s.rest) (g.met.R.Rest.begins_with s.rest) s.number s.taken (c.self.invariant.1 going) c.var.result c.var.ensures)

pub returns-clause-short : goal.returns-clause-short
returns-clause-short g c =
    let s = c.self.inside.reader in
    rw (← c.self.view_is) (λ going. unfinished_short (g.R.Rest.left s.rest) (g.R.Rest.next s.rest) s.number s.taken (c.self.invariant.1 going) c.var.result c.var.ensures)

pub returns-clause-ended : goal.returns-clause-ended
returns-clause-ended g c =
    let s = c.self.inside.reader in
    rw (← c.self.view_is) (λ going none. unfinished_ended (g.R.Rest.left s.rest) (g.R.Rest.next s.rest) (g.met.R.Rest.ended s.rest) s.number s.taken (c.self.invariant.1 going) (sym c.var.ensures ∙ none_is c.var.result none))
