-- The run of a line that was found, and those before it.
use Rattle.std.specs.Prelude.{ℕ, List, ◌∷◌}
use Rattle.etcs_runs.specs.declared.run.Run.{Run}
use Rattle.etcs_runs.specs.LineRuns.{runs_before}

-- the texts that end with this run and those before it, the last first
abbrev pub runs_from : Run → List (List ℕ)
runs_from run = run.text.now ∷ runs_before run.found.enough run.left run.text.now
