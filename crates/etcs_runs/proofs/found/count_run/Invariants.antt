use Rattle.std.proofs.Common.{◌≡◌, ◌≤◌, ◌+◌, length}
use Rattle.etcs_runs.specs.Cuts.{parts_at}
use Rattle.etcs_runs.specs.Digits.{last_first, run, run_words}
use Rattle.etcs_runs.proofs.found.count_run.Given as goal

abbrev pub invariant-loop-digits : goal.invariant-loop-digits
invariant-loop-digits l = record {
  words : run_words l.size (last_first (parts_at l.cut) l.text) ≡ l.words + run_words l.size (last_first (parts_at l.cut) l.rest);
  digits : length (run l.size (last_first (parts_at l.cut) l.text)) ≡ l.digits + length (run l.size (last_first (parts_at l.cut) l.rest));
  few : l.words + length l.rest ≤ length l.text;
  short : l.digits + length l.rest ≤ length l.text;
}

abbrev pub decreases-loop-digits : goal.decreases-loop-digits
decreases-loop-digits l = length l.rest
