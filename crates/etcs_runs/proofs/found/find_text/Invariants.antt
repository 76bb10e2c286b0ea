use Rattle.std.proofs.Common.{◌≡◌, ◌≤◌, length}
use Rattle.etcs_runs.specs.Digits.{before_end, before_words, end_digits, is_gap, last_first, searched, searched_words}
use Rattle.etcs_runs.specs.Finds.{digits_of, end_of, found_front}
use Rattle.etcs_runs.specs.LineRuns.{digits_end}
use Rattle.etcs_runs.proofs.found.find_text.Given as goal

abbrev pub invariant-loop-found : goal.invariant-loop-found
invariant-loop-found l = record {
  passed : searched end_digits (last_first is_gap l.line) ≡ searched end_digits (last_first is_gap l.found.line.now);
  words : before_words is_gap (searched_words end_digits (λ ws. 0) (last_first is_gap l.line)) l.line ≡ before_words is_gap (searched_words end_digits (λ ws. 0) (last_first is_gap l.found.line.now)) l.found.line.now;
  short : length l.found.line.now ≤ length l.line;
  digits : digits_of l.found.cut l.found.size l.found.before.now l.found.word.now ≡ end_digits (last_first is_gap l.found.line.now);
  end : end_of l.found.cut l.found.passed l.found.line.now ≡ digits_end l.found.line.now;
  front : found_front l.found.cut l.found.size l.found.before.now l.found.after l.found.line.now ≡ before_end l.found.line.now;
}

abbrev pub decreases-loop-found : goal.decreases-loop-found
decreases-loop-found l = length l.found.line.now
