-- The numbers of a variable that begin with some bits, and those next to them.
use Rattle.std.specs.Prelude.{◌≡◌, ℕ, ◌-◌, ◌/◌, ◌^◌, ◌<◌, ◌≤◌, ◌∷◌, Option, Some, None}
use Rattle.etcs_vars.specs.declared.var.Var.{Var}
use Rattle.etcs_vars.specs.Vars.{width}
use Rattle.etcs_vars.specs.Reading.{Reading}
use Rattle.etcs_reader.specs.declared.block.Block.{Block}

-- the language L has a reading that begins with x and the number n
abbrev pub Continues : (Reading → Type 0) → Var → ℕ → Type 0
Continues L x n = (r : Reading) × L ((x, n) ∷ r)

-- no number with P begins with these bits and has rest bits more after them
abbrev pub NoneOf : (ℕ → Type 0) → ℕ → ℕ → Type 0
NoneOf P rest bits = (n : ℕ) → n / 2 ^ rest ≡ bits → P n → ⊥

-- the greatest number with P below those that begin with these bits; nothing if there is none
abbrev pub IsBelow : (ℕ → Type 0) → ℕ → ℕ → Option ℕ → Type 0
IsBelow P rest bits None = (n : ℕ) → P n → n / 2 ^ rest < bits → ⊥
IsBelow P rest bits (Some m) = P m × (m / 2 ^ rest < bits) × ((n : ℕ) → P n → n / 2 ^ rest < bits → n ≤ m)

-- the least number with P above those that begin with these bits; nothing if there is none
abbrev pub IsAbove : (ℕ → Type 0) → ℕ → ℕ → Option ℕ → Type 0
IsAbove P rest bits None = (n : ℕ) → P n → bits < n / 2 ^ rest → ⊥
IsAbove P rest bits (Some m) = P m × (bits < m / 2 ^ rest) × ((n : ℕ) → P n → bits < n / 2 ^ rest → m ≤ n)

-- of the numbers of x that begin with the block's bits none has P, and the numbers next to them are those that have
pub record Blocks (P : ℕ → Type 0) (x : Var) (b : Block) : Type 0 where
  pub some : 0 < b.count
  pub short : b.count ≤ width x
  pub fits : b.bits < 2 ^ b.count
  pub none : NoneOf P (width x - b.count) b.bits
  pub below : IsBelow P (width x - b.count) b.bits b.below
  pub above : IsAbove P (width x - b.count) b.bits b.above
