use Rattle.std.proofs.Common.{◌≡◌, ◌≤◌, length, drop, not, true}
use Rattle.std.specs.List.{list_all}
use Rattle.etcs_runs.specs.Cuts.{parts_at}
use Rattle.etcs_runs.proofs.words.start_of_word.Given as goal

abbrev pub invariant-loop-start : goal.invariant-loop-start
invariant-loop-start l = record {
  within : l.start ≤ length l.text;
  word : list_all (λ c. not (parts_at l.cut c)) (drop l.start l.text) ≡ true;
}

abbrev pub decreases-loop-start : goal.decreases-loop-start
decreases-loop-start l = l.start
