-- Values one after another, and how many bits readings take.
use Rattle.std.proofs.Common.{◌≡◌, ℕ, ◌+◌, List, [], ◌∷◌, ◌++◌, length, Option, Some, None}
use Rattle.std.specs.Prelude.{All, flat_map}
use Rattle.etcs_vars.specs.Vars.{width}
use Rattle.etcs_vars.specs.Reading.{Reading}
use Rattle.etcs_bodies.specs.Taking.{Left, ahead}

-- what is left is the variables of these n values one after another, and after them t
abbrev pub Stand : {V : Type 0} → (V → Type 0) → (V → Reading) → ℕ → Left → List V → Left → Type 0
Stand IsValue reading n s vs t = All IsValue vs × (length vs ≡ n) × (s ≡ ahead (flat_map reading vs) t)

-- the values that were taken before with those that are still taken
abbrev pub beyond : {V : Type 0} → List V → Option (List V × Left) → Option (List V × Left)
beyond vs None = None
beyond vs (Some more) = Some (vs ++ more.0, more.1)

-- ---- How many bits.

-- how many bits a reading takes: the widths of its variables, added
abbrev pub bit_count : Reading → ℕ
bit_count [] = 0
bit_count (p ∷ r) = width p.0 + bit_count r
