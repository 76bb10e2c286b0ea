use Rattle.std.proofs.Common.{◌≡◌, ◌++◌}
use Rattle.etcs_group.specs.GroupLines.{positions_text, trues}
use Rattle.etcs_group.proofs.states.write_positions.Given as goal

abbrev pub invariant-loop-position : goal.invariant-loop-position
invariant-loop-position l = l.page ≡ l.fn.page ++ positions_text (trues l.position l.marked)
