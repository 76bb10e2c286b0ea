use Rattle.std.proofs.Common.{take}
use Rattle.etcs_c.specs.Groups.{AreHeld}
use Rattle.etcs_c.proofs.groups.assemble.Given as goal

abbrev pub invariant-loop-i : goal.invariant-loop-i
invariant-loop-i l = AreHeld (take l.i l.telegrams) l.assembly
