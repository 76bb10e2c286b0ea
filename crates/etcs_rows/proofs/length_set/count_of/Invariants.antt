use Rattle.std.proofs.Common.{◌*◌, ◌≤◌}
use Rattle.etcs_rows.proofs.length_set.count_of.Given as goal

abbrev pub invariant-loop-word : goal.invariant-loop-word
invariant-loop-word l = l.count ≤ 64 * l.word-index
