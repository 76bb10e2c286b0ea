-- What is printed of faults.
use Rattle.std.specs.Prelude.{ℕ, List, ◌++◌, codes}
use Rattle.etcs_vars.specs.Vars.{name}
use Rattle.etcs_rows.specs.declared.walk.Stopped.{Stopped}
use Rattle.etcs_rows.specs.declared.walk.Stopped.TheVariants as stopped

-- the text that is printed of a walk that takes no bit
abbrev pub stopped_text : Stopped → List ℕ
stopped_text (stopped.Refused v) = codes "refused at " ++ name v
stopped_text stopped.Ended = codes "the row was whole before"
