use Rattle.std.proofs.Common.{◌≡◌, length, map, take}
use Rattle.etcs_c.specs.Groups.{flag}
use Rattle.etcs_c.proofs.groups.write_flags.Given as goal

abbrev pub invariant-loop-position : goal.invariant-loop-position
invariant-loop-position l = (length l.out ≡ 8) × (take l.position l.out ≡ map flag (take l.position l.marked))
