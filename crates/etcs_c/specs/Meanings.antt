-- The meaning of a number of a variable.
use Rattle.std.specs.Prelude.{◌≡◌, ℕ, ◌⊎◌, List, Some}
use Rattle.etcs_vars.specs.declared.var.Var.{Var}
use Rattle.etcs_vars.specs.Vars.{special}
use Rattle.etcs_c.specs.declared.answer.EtcsAnswer.{EtcsAnswer}
use Rattle.etcs_c.specs.Writes.{Starves, Writes, name_field}
use Rattle.etcs_c.specs.Fields.{var_number}

-- for a number with a special text, the text is this one; for any other nothing is defined
abbrev pub IsMeaning : Var → ℕ → List ℕ → Type 0
IsMeaning x number text = (t : List ℕ) → special x number ≡ Some t → text ≡ t

-- `etcs_meaning`: for a variable, its name, and what its number means; or 7 if no variable has this number, and nothing is
-- written
abbrev pub SaysMeaning : ℕ → ℕ → List ℕ → List ℕ → ℕ → EtcsAnswer → Type 0
SaysMeaning n number old new s a = ((x : Var) × (var_number x ≡ n) × (a.var ≡ name_field x) × (((text : List ℕ) × IsMeaning x number text × Writes text old new s a) ⊎ Starves old new s)) ⊎ ((s ≡ 7) × ((x : Var) → var_number x ≡ n → ⊥) × (new ≡ old))
