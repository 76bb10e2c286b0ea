-- Variables one after another in the lowest bits of a word.
use Rattle.std.specs.Prelude.{◌≡◌, ℕ, ◌/◌, ◌%◌, ◌^◌, List, [], ◌∷◌, IsTrue}
use Rattle.etcs_vars.specs.declared.var.Var.{Var}
use Rattle.etcs_vars.specs.Vars.{width, admits}
use Rattle.etcs_sequence.specs.Labels.{widths}

-- the numbers of the variables in the lowest bits of a word, the last one's at the end; each is admitted
abbrev pub FieldsIn : List Var → ℕ → List ℕ → Type 0
FieldsIn [] word ns = ns ≡ []
FieldsIn (v ∷ vs) word [] = ⊥
FieldsIn (v ∷ vs) word (n ∷ ns) = IsTrue (admits v n) × (n ≡ word / 2 ^ widths vs % 2 ^ width v) × FieldsIn vs word ns
