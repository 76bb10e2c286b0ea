use Rattle.std.proofs.Common.{◌∙◌, ap, ◌-◌, arith, not}
use Rattle.etcs_group.specs.Messages.{IsHeldAt}
use Rattle.etcs_group.proofs.Positions.{some_from, second_by_previous, second_by_itself}
use Rattle.etcs_group.proofs.assembly.Assembly.is_second.Goals as goal
use Rattle.etcs_group.proofs.assembly.Assembly.is_second.Goals.{Else-is_none}

before_held : (c : Else-is_none) → IsHeldAt c.args.self.now (c.args.position - 1)
before_held c = let held = some_from c.at.result c.at.ensures.some (c.is_none.ensures ∙ ap not c.if-is_none.false) in (held.0.now, held.1.0, held.1.1)

pub returns-then-is_held_as : goal.returns-then-is_held_as
returns-then-is_held_as c =
    second_by_previous c.args.self.now c.args.position (c.args.position - 1) c.is_held_as.result (omega arith) (before_held (goal.at.returns-then-is_held_as c).Else-is_none) c.is_held_as.ensures c.if-is_held_as.true

pub returns-else-is_held_as : goal.returns-else-is_held_as
returns-else-is_held_as c =
    second_by_itself c.args.self.now c.args.position (c.args.position - 1) c.is_held_as.result c.is_held_as-else-is_held_as.result (omega arith) (before_held (goal.at.returns-else-is_held_as c).Else-is_none) c.is_held_as.ensures c.if-is_held_as.false c.is_held_as-else-is_held_as.ensures
