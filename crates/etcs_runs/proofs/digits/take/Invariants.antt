use Rattle.std.proofs.Common.{◌≡◌, ◌*◌, ◌<◌, ◌≤◌, ◌++◌, List, ℕ, length, drop, Ok}
use Rattle.hex.specs.Hex.{decode_of}
use Rattle.etcs_runs.specs.Cuts.{parts_at}
use Rattle.etcs_runs.specs.Digits.{before_words, last_first, run, run_words}
use Rattle.etcs_runs.specs.Finds.{digits_of}
use Rattle.etcs_runs.proofs.digits.take.Given as goal

abbrev pub invariant-loop-before : goal.invariant-loop-before
invariant-loop-before l = record {
  some : l.at < l.end;
  same : length l.buffer ≡ l.end;
  room : length l.rest ≤ 2 * l.at;
  rest : before_words (parts_at l.found.cut) (run_words l.found.size (last_first (parts_at l.found.cut) l.found.before.now)) l.found.before.now ≡ before_words (parts_at l.found.cut) (run_words l.found.size (last_first (parts_at l.found.cut) l.rest)) l.rest;
  bytes : (digits : List ℕ) × (decode_of digits ≡ Ok (drop l.at l.buffer)) × (digits_of l.found.cut l.found.size l.found.before.now l.found.word.now ≡ run l.found.size (last_first (parts_at l.found.cut) l.rest) ++ digits);
}

abbrev pub decreases-loop-before : goal.decreases-loop-before
decreases-loop-before l = length l.rest
