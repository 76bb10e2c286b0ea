-- This many bits, each a number of one variable, as the reader takes them (OTHER_DATA, FILL, PAD, PADDING).
use Rattle.std.proofs.Common.{◌≡◌, ℕ, Bool, List, length}
use Rattle.etcs_vars.specs.declared.var.Var.{Var}
use Rattle.etcs_vars.specs.Reading.{Reading, kept}

-- n numbers of the variable v, each a bit
abbrev pub BitsLeft : Var → ℕ → Reading → Type 0
BitsLeft v n r = (b : List Bool) × (length b ≡ n) × (r ≡ kept v b)
