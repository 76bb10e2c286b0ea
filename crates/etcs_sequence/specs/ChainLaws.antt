-- A reading of one language with one of another after it, which may depend on the first, as the reader takes them.
use Rattle.std.proofs.Common.{◌≡◌, ◌++◌}
use Rattle.etcs_vars.specs.Reading.{Reading}

-- a reading a of P, and after it one of Q a
abbrev pub Chain : (Reading → Type 0) → (Reading → Reading → Type 0) → Reading → Type 0
Chain P Q r = (a : Reading) × (b : Reading) × (r ≡ a ++ b) × P a × Q a b
