use Rattle.std.proofs.Common.{◌∙◌, sym, refl, ap, set, Some, is_some}
use Rattle.etcs_group.specs.Groups.{Joins}
use Rattle.etcs_group.proofs.Joining.{joins_not}
use Rattle.etcs_group.proofs.Adding.{adds_from, after_refused, after_repeat, Added, added, group_after, Repeated, repeated}
use Rattle.etcs_group.proofs.assembly.Assembly.add.Goals as goal
use Rattle.etcs_group.proofs.assembly.Assembly.add.Goals.{In-Some, Then-is_some, Else-is_some}

not_joins : (c : In-Some) → Joins c.args.self.now c.args.telegram → ⊥
not_joins c = rw (← c.self.view_is) (joins_not c.self.inside.held c.args.telegram c.in-Some.clash c.in-Some.ensures.clash.0)

pub returns-in-Some-clause-held : goal.returns-in-Some-clause-held
returns-in-Some-clause-held c = after_refused c.args.self.now c.args.telegram (not_joins c)

pub returns-in-Some-clause-adds : goal.returns-in-Some-clause-adds
returns-in-Some-clause-adds c = adds_from c.args.self.now c.args.self.now c.args.telegram (after_refused c.args.self.now c.args.telegram (not_joins c))

pub returns-in-Some-clause-new : goal.returns-in-Some-clause-new
returns-in-Some-clause-new c = (λ e. absurd (cc), λ h. absurd (not_joins c h.0))

pub returns-in-Some-clause-repeat : goal.returns-in-Some-clause-repeat
returns-in-Some-clause-repeat c = (λ e. absurd (cc), λ h. absurd (not_joins c h.0))

is_repeated : (c : Then-is_some) → Repeated c.args.self.now c.args.telegram
is_repeated c =
    repeated c.self.inside.held c.args.self.now c.position_of-position.result c.args.telegram c.index-self-position.result c.self.view_is c.position_of-position.ensures.position c.self.invariant c.in_default.ensures.joins c.index-self-position.is (ap is_some c.index-self-position.is ∙ sym c.is_some.ensures ∙ c.if-is_some.true) c.position_of-position.ensures.small

pub returns-then-is_some-clause-held : goal.returns-then-is_some-clause-held
returns-then-is_some-clause-held c = after_repeat c.args.self.now c.args.telegram (is_repeated (goal.at.returns-then-is_some-clause-held c).Then-is_some).there

pub returns-then-is_some-clause-adds : goal.returns-then-is_some-clause-adds
returns-then-is_some-clause-adds c = adds_from c.args.self.now c.args.self.now c.args.telegram (after_repeat c.args.self.now c.args.telegram (is_repeated (goal.at.returns-then-is_some-clause-adds c).Then-is_some).there)

pub returns-then-is_some-clause-new : goal.returns-then-is_some-clause-new
returns-then-is_some-clause-new c = (λ e. absurd (cc), λ h. absurd (h.1 (is_repeated (goal.at.returns-then-is_some-clause-new c).Then-is_some).there))

pub returns-then-is_some-clause-repeat : goal.returns-then-is_some-clause-repeat
returns-then-is_some-clause-repeat c = let all = is_repeated (goal.at.returns-then-is_some-clause-repeat c).Then-is_some in (λ _. (all.joins, all.there), λ _. refl)

is_added : (c : Else-is_some) → Added c.args.self.now c.args.telegram (set c.self.inside.held c.position_of-position.result (Some c.args.telegram))
is_added c =
    added c.self.inside.held c.args.self.now c.position_of-position.result c.args.telegram c.index-self-position.result c.self.view_is c.position_of-position.ensures.position c.self.invariant c.in_default.ensures.joins c.index-self-position.is (ap is_some c.index-self-position.is ∙ sym c.is_some.ensures ∙ c.if-is_some.false) c.position_of-position.ensures.small

pub invariant_of-self : goal.invariant_of-self
invariant_of-self c =
    group_after c.self.inside.held c.position_of-position.result c.args.telegram c.index-self-position.result c.position_of-position.ensures.position c.self.invariant c.in_default.ensures.joins c.index-self-position.is (ap is_some c.index-self-position.is ∙ sym c.is_some.ensures ∙ c.if-is_some.false) c.position_of-position.ensures.small c.position_of-position.ensures.total

pub returns-clause-placed : goal.returns-clause-placed
returns-clause-placed c =
    group_after c.self.inside.held c.position_of-position.result c.args.telegram c.index-self-position.result c.position_of-position.ensures.position c.self.invariant c.in_default.ensures.joins c.index-self-position.is (ap is_some c.index-self-position.is ∙ sym c.is_some.ensures ∙ c.if-is_some.false) c.position_of-position.ensures.small c.position_of-position.ensures.total

pub returns-clause-held : goal.returns-clause-held
returns-clause-held c = (is_added (goal.at.returns-clause-held c).Else-is_some).after

pub returns-clause-adds : goal.returns-clause-adds
returns-clause-adds c = adds_from c.args.self.now (set c.self.inside.held c.position_of-position.result (Some c.args.telegram)) c.args.telegram (is_added (goal.at.returns-clause-adds c).Else-is_some).after

pub returns-clause-new : goal.returns-clause-new
returns-clause-new c = let all = is_added (goal.at.returns-clause-new c).Else-is_some in (λ _. (all.joins, all.fresh), λ _. refl)

pub returns-clause-repeat : goal.returns-clause-repeat
returns-clause-repeat c = (λ e. absurd (cc), λ h. absurd ((is_added (goal.at.returns-clause-repeat c).Else-is_some).fresh h.1))
