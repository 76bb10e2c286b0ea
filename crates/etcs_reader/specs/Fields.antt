-- The language of variables one after another, each with any number that it admits.
use Rattle.std.specs.Prelude.{◌≡◌, ℕ, List, [], ◌∷◌, Option, Some, None, IsTrue}
use Rattle.etcs_vars.specs.declared.var.Var.{Var}
use Rattle.etcs_vars.specs.Vars.{admits}
use Rattle.etcs_vars.specs.Reading.{Reading}

-- r is a reading of the variables, one after another, each with a number that it admits
abbrev pub ReadsFields : List Var → Reading → Type 0
ReadsFields [] r = r ≡ []
ReadsFields (v ∷ vs) r = (n : ℕ) × (r' : Reading) × IsTrue (admits v n) × (r ≡ (v, n) ∷ r') × ReadsFields vs r'

-- the first of the variables, if there is one
abbrev pub first_of : List Var → Option Var
first_of [] = None
first_of (v ∷ vs) = Some v
