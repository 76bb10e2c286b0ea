-- What is promised of a log.
use Rattle.std.specs.Prelude.{◌≡◌, ℕ, ◌<◌, List, [], ◌∷◌, ◌++◌, length, ◌⊎◌, All}
use Rattle.etcs_runs.specs.Lines.{IsLine, lines_text}
use Rattle.etcs_runs.specs.Promises.{Promises}
use Rattle.etcs_runs.specs.declared.fault.RunFault.TheVariants.{Memory}
use Rattle.etcs_log.specs.declared.job.LogJob.{LogJob}
use Rattle.etcs_log.specs.declared.job.LogTally.{LogTally}
use Rattle.etcs_log.specs.Logs.{Answer, AreAnswers, IsLog, output_of}

-- each of these lines gets its result, and this is what is written of them, one after another
pub record LinesOutput (job : LogJob) (lines : List (List ℕ)) (output : List ℕ) : Type 0 where
  pub answers : List Answer
  pub are_answers : AreAnswers job lines answers
  pub output_is : output ≡ output_of job 1 answers

-- what is written of some first lines of an input, all before the rest, each with a LF; or also of a part of the next one,
-- which is too long however it continues
pub record FrontOutput (job : LogJob) (given rest output : List ℕ) : Type 0 where
  pub lines : List (List ℕ)
  pub part : List ℕ
  pub given_is : given ≡ (lines_text lines ++ part) ++ rest
  pub are_lines : All IsLine lines × IsLine part
  pub lines_output : LinesOutput job lines output ⊎ ((1048577 < length part) × LinesOutput job (lines ++ part ∷ []) output)

-- what is written of all lines of an input, without counts and groups
pub record AllOutput (job : LogJob) (given output : List ℕ) : Type 0 where
  pub lines : List (List ℕ)
  pub last : List ℕ
  pub given_is : given ≡ lines_text lines ++ last
  pub are_lines : All IsLine lines × IsLine last
  pub lines_output : LinesOutput job (lines ++ last ∷ []) output

-- what is written of all lines that have a LF in what is given, and perhaps of one after them that is too long
abbrev pub WholeOutput : LogJob → List ℕ → List ℕ → Type 0
WholeOutput job given output = FrontOutput job given [] output

-- what is written of some first lines
abbrev pub FirstOutput : LogJob → List ℕ → List ℕ → Type 0
FirstOutput job given output = (rest : List ℕ) × FrontOutput job given rest output

-- no fault of its own ends a log, except if memory runs out
abbrev pub log_promises : LogJob → Promises LogTally
log_promises job = record {
  Outputs = λ given output. WholeOutput job given output;
  Ends = λ given output tally. IsLog job given output tally;
  Stops = λ given output fault. (fault ≡ Memory) × FirstOutput job given output;
  StopsAtEnd = λ given output fault. (fault ≡ Memory) × (FirstOutput job given output ⊎ AllOutput job given output);
  Prints = λ given output. FirstOutput job given output ⊎ AllOutput job given output;
}
