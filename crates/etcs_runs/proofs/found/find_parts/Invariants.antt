use Rattle.std.proofs.Common.{◌≡◌, ◌≤◌, ◌+◌, length}
use Rattle.etcs_runs.specs.Digits.{before_words, group_words, groups, is_joint, last_first, searched, searched_words}
use Rattle.etcs_runs.specs.Finds.{digits_of, end_of, found_front}
use Rattle.etcs_runs.specs.declared.words.Cut.TheVariants.{Joints}
use Rattle.etcs_runs.proofs.found.find_parts.Given as goal

abbrev pub invariant-loop-found : goal.invariant-loop-found
invariant-loop-found l = record {
  passed : searched groups (last_first is_joint l.word) ≡ searched groups (last_first is_joint l.rest);
  words : searched_words groups group_words (last_first is_joint l.word) ≡ l.passed + searched_words groups group_words (last_first is_joint l.rest);
  ends : searched_words groups (λ ws. 0) (last_first is_joint l.word) ≡ l.passed + searched_words groups (λ ws. 0) (last_first is_joint l.rest);
  few : l.passed + length l.rest ≤ length l.word;
  line : l.found.line.now ≡ l.line;
  digits : digits_of l.found.cut l.found.size l.found.before.now l.found.word.now ≡ groups (last_first is_joint l.rest);
  end : end_of l.found.cut l.found.passed l.found.line.now ≡ end_of Joints l.passed l.line;
  front : found_front l.found.cut l.found.size l.found.before.now l.found.after l.found.line.now ≡ before_words is_joint (l.passed + group_words (last_first is_joint l.rest)) l.line;
}

abbrev pub decreases-loop-found : goal.decreases-loop-found
decreases-loop-found l = length l.rest
