-- What was answered of a log's lines is what is promised of the log.
use Rattle.std.proofs.Common.{ℕ, ◌+◌, ◌<◌, List, [], ◌∷◌, ◌++◌, length, refl, sym, ap, ◌∙◌, append_assoc, inl, inr}
use Rattle.std.specs.Prelude.{All}
use Rattle.std.proofs.lemmas.List.{append-nil}
use Rattle.std.proofs.lemmas.List.Elements.{All-cons, All-head, All-nil, All-tail}
use Rattle.etcs_runs.specs.Lines.{IsLine, lines_text}
use Rattle.etcs_runs.specs.Cutting.{LinesStand}
use Rattle.etcs_runs.specs.Promises.{Sound}
use Rattle.etcs_runs.specs.laws.CutLaws.{lines_outputs}
use Rattle.etcs_log.specs.declared.job.LogJob.{LogJob}
use Rattle.etcs_log.specs.declared.seen.Seen.{Seen}
use Rattle.etcs_log.specs.Stands.{AreAnswered, LogTook}
use Rattle.etcs_log.specs.Promised.{FrontOutput, LinesOutput, WholeOutput, log_promises}

lines_output : (job : LogJob) (lines : List (List ℕ)) (seen : Seen) (output : List ℕ) → AreAnswered job lines seen output → LinesOutput job lines output
lines_output job lines seen output h = record { answers = h.answers; are_answers = h.are_answers; output_is = h.output_is }

-- what is the text of an input's front is that of a longer one's
front_longer : (job : LogJob) (given rest more output : List ℕ) → FrontOutput job given rest output → FrontOutput job (given ++ more) (rest ++ more) output
front_longer job given rest more output h = record {
  lines = h.lines;
  part = h.part;
  given_is = ap (λ (z : List ℕ). z ++ more) h.given_is ∙ append_assoc (lines_text h.lines ++ h.part) rest more;
  are_lines = h.are_lines;
  lines_output = h.lines_output;
}

pub log_sound : (job : LogJob) → Sound (log_promises job)
log_sound job = record {
  outputs_print = λ given output h. inl ([], h);
  stops_print = λ given output fault h. inl h.1;
  last_prints = λ given output fault h. h.1;
  starves = λ given more output h. (refl, (more, front_longer job given [] more output h));
}

-- the lines that have a LF were answered
pub took_output : (job : LogJob) (line : ℕ) (seen : Seen) (lines : List (List ℕ)) (begun output : List ℕ) → LogTook job line seen lines output → IsLine begun → WholeOutput job (lines_text lines ++ begun) output
took_output job line seen lines begun output h l = record {
  lines = lines;
  part = begun;
  given_is = sym (append-nil (lines_text lines ++ begun));
  are_lines = (h.are_lines, l);
  lines_output = inl (lines_output job lines seen output h.answered);
}

-- the first lines are lines
pub All-left : (xs ys : List (List ℕ)) → All IsLine (xs ++ ys) → All IsLine xs
All-left [] ys h = All-nil IsLine
All-left (x ∷ xs) ys h = All-cons IsLine x xs (All-head IsLine x (xs ++ ys) h) (All-left xs ys (All-tail IsLine x (xs ++ ys) h))

-- and the one after them, which is too long
pub long_output : (job : LogJob) (line : ℕ) (seen : Seen) (lines : List (List ℕ)) (part output : List ℕ) → LogTook job line seen (lines ++ part ∷ []) output → IsLine part → 1048577 < length part → WholeOutput job (lines_text lines ++ part) output
long_output job line seen lines part output h l long = record {
  lines = lines;
  part = part;
  given_is = sym (append-nil (lines_text lines ++ part));
  are_lines = (All-left lines (part ∷ []) h.are_lines, l);
  lines_output = inr (long, lines_output job (lines ++ part ∷ []) seen output h.answered);
}

-- all that is whole in what a log has so far
pub stands_output : (job : LogJob) (line : ℕ) (seen : Seen) (begun : List ℕ) (n whole : ℕ) (given output : List ℕ) → LinesStand (λ lines t. LogTook job line seen lines t) 1048576 begun n whole given output → WholeOutput job given output
stands_output job line seen begun n whole given output h = lines_outputs (λ g t. WholeOutput job g t) (λ lines t. LogTook job line seen lines t) 1048576 (took_output job line seen) (long_output job line seen) begun n whole given output h
