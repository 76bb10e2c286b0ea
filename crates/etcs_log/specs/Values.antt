-- What is needed of items: their values, or their bytes alone.
use Rattle.std.specs.Prelude.{Bool, true, false, ◌||◌, ℕ, List, [], ◌∷◌, ◌++◌}
use Rattle.hex.specs.Hex.{encode_upper}
use Rattle.etcs_text.specs.declared.entry.Kind.{Kind}
use Rattle.etcs_log.specs.declared.job.Good.{Good}
use Rattle.etcs_log.specs.declared.job.Good.TheVariants.{Left, Digits, Json}
use Rattle.etcs_log.specs.declared.job.LogJob.{LogJob}
use Rattle.etcs_log.specs.declared.kinds.Kinds.{Kinds}
use Rattle.etcs_log.specs.Candidates.{named}
use Rattle.etcs_log.specs.Picks.{picks_some}

-- good lines are written variable by variable
abbrev pub has_variables : Good → Bool
has_variables Left = false
has_variables Digits = false
has_variables Json = true

-- the values of items are needed: for counts, groups, a selection or JSON
abbrev pub needs_values : LogJob → Bool
needs_values job = picks_some job || job.summary || job.groups || has_variables job.good

-- the line of an item's bytes: its digits with the name of its kind
abbrev pub digits_line : Kinds → Kind → List ℕ → List ℕ
digits_line kinds kind bytes = named kinds kind ++ (encode_upper bytes ++ 10 ∷ [])

-- what is written of an item's bytes: their line, or nothing
abbrev pub bytes_text : Good → Kinds → Kind → List ℕ → List ℕ
bytes_text Left kinds kind bytes = []
bytes_text Digits kinds kind bytes = digits_line kinds kind bytes
bytes_text Json kinds kind bytes = []
