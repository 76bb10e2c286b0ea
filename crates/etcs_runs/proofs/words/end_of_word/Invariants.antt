use Rattle.std.proofs.Common.{◌≡◌, ◌≤◌, length, take, drop, true}
use Rattle.std.specs.List.{list_all}
use Rattle.etcs_runs.specs.Cuts.{parts_at}
use Rattle.etcs_runs.specs.Digits.{words}
use Rattle.etcs_runs.proofs.words.end_of_word.Given as goal

abbrev pub invariant-loop-end : goal.invariant-loop-end
invariant-loop-end l = record {
  within : l.end ≤ length l.text;
  words : words (parts_at l.cut) l.text ≡ words (parts_at l.cut) (take l.end l.text);
  all : list_all (parts_at l.cut) (drop l.end l.text) ≡ true;
}

abbrev pub decreases-loop-end : goal.decreases-loop-end
decreases-loop-end l = l.end
