use Rattle.std.proofs.lemmas.Option.{IfSome_then}
use Rattle.etcs_group.specs.Groups.{Holds}
use Rattle.etcs_group.proofs.assembly.Assembly.first_held.Goals as goal

pub returns-clause-small : goal.returns-clause-small
returns-clause-small c = IfSome_then c.first_in.result c.first_in.ensures.some (λ t h. c.self.invariant.small t.now h)

pub returns-clause-alike : goal.returns-clause-alike
returns-clause-alike c = IfSome_then c.first_in.result c.first_in.ensures.some (λ t h u held.
    let there : Holds c.self.inside.held u = rw c.self.view_is held in
    c.self.invariant.alike u t.now there h)

pub returns-clause-none : goal.returns-clause-none
returns-clause-none c = rw (← c.self.view_is) c.first_in.ensures.none
