use Rattle.std.proofs.Common.{◌≡◌, ◌≤◌, length, take}
use Rattle.etcs_vars.specs.Reading.{spelled}
use Rattle.etcs_blank.proofs.pairs.bits_of.Given as goal

abbrev pub invariant-loop-pair : goal.invariant-loop-pair
invariant-loop-pair l = (l.bits ≡ length (spelled (take l.pair-index l.pairs))) × (l.bits ≤ 8184)
