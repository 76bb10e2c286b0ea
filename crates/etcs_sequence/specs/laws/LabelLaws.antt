-- What holds of variables with their numbers.
use Rattle.std.proofs.Common.{◌≡◌, ℕ, zero, suc, ◌<◌, List, [], ◌∷◌, length, drop, None, arith}
use Rattle.etcs_vars.specs.declared.var.Var.{Var}
use Rattle.etcs_reader.specs.Fields.{first_of}

-- within the list some variable comes next
pub some_first : (vs : List Var) (at : ℕ) → at < length vs → first_of (drop at vs) ≡ None → ⊥
some_first [] at h e = absurd (omega arith)
some_first (v ∷ vs) zero h e = absurd cc
some_first (v ∷ vs) (suc at) h e = some_first vs at (omega arith) e
