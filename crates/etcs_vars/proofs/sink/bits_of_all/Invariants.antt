use Rattle.std.proofs.Common.{◌≡◌, ◌≤◌, ◌*◌, flat_map, length, take}
use Rattle.etcs_vars.specs.Reading.{spelled}
use Rattle.etcs_vars.proofs.sink.bits_of_all.Given as goal

abbrev pub invariant-loop-variables : goal.invariant-loop-variables
invariant-loop-variables g l = (l.bits ≡ length (spelled (flat_map g.V.Variables.reading_of (take l.variables-index l.lists)))) × (l.bits ≤ l.variables-index * 65536)
