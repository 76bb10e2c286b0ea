use Rattle.std.proofs.Common.{subst, List}
use Rattle.etcs_group.specs.declared.groups.Group.{Group}
use Rattle.etcs_group.specs.ManyGroups.{AreDistinct}
use Rattle.etcs_group.proofs.ManyGroups.{distinct}
use Rattle.etcs_group.proofs.groups.Groups.find.Goals as goal

pub returns-in-Some-clause-distinct : goal.returns-in-Some-clause-distinct
returns-in-Some-clause-distinct c = subst (λ (l : List Group). AreDistinct l) c.self.view_is (distinct c.self.inside.places c.self.inside.groups.items c.self.invariant)

pub returns-in-None-clause-distinct : goal.returns-in-None-clause-distinct
returns-in-None-clause-distinct c = subst (λ (l : List Group). AreDistinct l) c.self.view_is (distinct c.self.inside.places c.self.inside.groups.items c.self.invariant)
