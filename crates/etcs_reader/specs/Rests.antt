-- What is left of a language: whether something is, what it begins with, and what follows whole variables.
use Rattle.std.specs.Prelude.{◌≡◌, ℕ, ◌+◌, ◌/◌, ◌^◌, ◌<◌, ◌≤◌, Bool, List, [], ◌∷◌, length}
use Rattle.etcs_bits.specs.Bits.{part}
use Rattle.etcs_vars.specs.declared.var.Var.{Var}
use Rattle.etcs_vars.specs.Reading.{Reading, spelled}

-- some reading of L begins with x and a number that begins with these bits and has rest bits more after them
abbrev pub Starts : (Reading → Type 0) → Var → ℕ → ℕ → Type 0
Starts L x rest bits = (n : ℕ) × (r : Reading) × L ((x, n) ∷ r) × (n / 2 ^ rest ≡ bits)

-- something is left: the language L has a reading
abbrev pub Goes : (Reading → Type 0) → Type 0
Goes L = (r : Reading) × L r

-- each reading of L begins with the variable x
abbrev pub BeginsWith : (Reading → Type 0) → Var → Type 0
BeginsWith L x = (r : Reading) → L r → (n : ℕ) × (r' : Reading) × (r ≡ (x, n) ∷ r')

-- no variable is left: each reading of L is empty
abbrev pub Ended : (Reading → Type 0) → Type 0
Ended L = (r : Reading) → L r → r ≡ []

-- n bits of xs from at on, at least one, spell whole variables, after which something is left
pub record LeapsBy (Left Follows : Reading → Type 0) (xs : List Bool) (at n : ℕ) : Type 0 where
  pub some : 0 < n
  pub inside : at + n ≤ length xs
  pub goes : Goes Left
  pub whole : Reading
  pub follows : Follows whole
  pub bits : spelled whole ≡ part at n xs
