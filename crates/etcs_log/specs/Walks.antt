-- The runs of a line, looked at one after another.
use Rattle.std.specs.Prelude.{◌≡◌, ◌≤◌, ◌*◌, ℕ, List, [], ◌++◌, length, Option, Some, None, IfSome}
use Rattle.etcs_runs.specs.Answers.{Says}
use Rattle.etcs_runs.specs.Digits.{text_digits}
use Rattle.etcs_runs.specs.RunTexts.{runs_from}
use Rattle.etcs_runs.specs.declared.run.Run.{Run}

-- the texts that end with this run and those before it, if there is one
abbrev pub texts_of : Option Run → List (List ℕ)
texts_of None = []
texts_of (Some run) = runs_from run

-- of all these texts some were looked at, the next run is after them, and the buffer has its bytes
pub record Walks (all seen : List (List ℕ)) (next : Option Run) (buffer : List ℕ) : Type 0 where
  pub all_is : all ≡ seen ++ texts_of next
  pub says : IfSome next (λ run. Says (text_digits run.text.now) run.bytes buffer)
  pub room : IfSome next (λ run. length run.text.now ≤ 2 * length buffer)
