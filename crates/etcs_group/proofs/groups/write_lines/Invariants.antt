use Rattle.std.proofs.Common.{◌≡◌, ◌++◌, ℕ, List, take}
use Rattle.etcs_group.specs.GroupLines.{AreGroupLines}
use Rattle.etcs_group.proofs.groups.write_lines.Given as goal

abbrev pub invariant-loop-group : goal.invariant-loop-group
invariant-loop-group l = (text : List ℕ) × AreGroupLines (take l.group-index l.groups) text × (l.page ≡ l.fn.page ++ text)
