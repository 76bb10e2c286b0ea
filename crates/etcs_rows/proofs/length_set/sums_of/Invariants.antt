use Rattle.std.proofs.Common.{◌*◌, ◌<◌}
use Rattle.etcs_rows.specs.Sets.{Has, Adds}
use Rattle.etcs_rows.proofs.SetLemmas.{zeroes}
use Rattle.etcs_rows.proofs.length_set.sums_of.Given as goal

abbrev pub invariant-loop-i : goal.invariant-loop-i
invariant-loop-i l = Adds (λ j. Has l.few j × (j < l.i * 64)) l.many (zeroes 128) l.sums
