-- Variables with their numbers, and how many bits they take.
use Rattle.std.specs.Prelude.{ℕ, ◌+◌, List, [], ◌∷◌}
use Rattle.etcs_vars.specs.declared.var.Var.{Var}
use Rattle.etcs_vars.specs.Vars.{width}
use Rattle.etcs_vars.specs.Reading.{Reading}

-- variables with their numbers, as far as there are numbers
abbrev pub labelled : List Var → List ℕ → Reading
labelled [] ns = []
labelled (v ∷ vs) [] = []
labelled (v ∷ vs) (n ∷ ns) = (v, n) ∷ labelled vs ns

-- how many bits variables take
abbrev pub widths : List Var → ℕ
widths [] = 0
widths (v ∷ vs) = width v + widths vs

-- how many bits the variables of a reading take
abbrev pub widths_of : Reading → ℕ
widths_of [] = 0
widths_of (p ∷ r) = width p.0 + widths_of r
