-- What was reported of the lines of a log so far.
use Rattle.std.specs.Prelude.{◌≡◌, ℕ, true, List, length, All}
use Rattle.etcs_runs.specs.Lines.{IsLine}
use Rattle.etcs_log.specs.declared.job.LogJob.{LogJob}
use Rattle.etcs_log.specs.declared.seen.Seen.{Seen}
use Rattle.etcs_log.specs.LogGroups.{AreGroups}
use Rattle.etcs_log.specs.Logs.{Answer, AreAnswers, no_lines, output_of, tally_of, telegrams_in}

-- these lines were classified one after another, and this text was written of them
pub record AreAnswered (job : LogJob) (lines : List (List ℕ)) (seen : Seen) (output : List ℕ) : Type 0 where
  pub answers : List Answer
  pub are_answers : AreAnswers job lines answers
  pub output_is : output ≡ output_of job 1 answers
  pub tally_is : seen.tally ≡ tally_of no_lines answers
  pub groups_are : job.groups ≡ true → AreGroups (telegrams_in answers) seen.groups

-- these lines were classified, and this is their number
pub record LogTook (job : LogJob) (line : ℕ) (seen : Seen) (lines : List (List ℕ)) (output : List ℕ) : Type 0 where
  pub are_lines : All IsLine lines
  pub line_is : line ≡ length lines
  pub answered : AreAnswered job lines seen output
