-- The numbers of a set next to a number.
use Rattle.std.specs.Prelude.{ℕ, ◌≤◌, nat_lt, if◌then◌else◌, Option, Some, None}
use Rattle.etcs_rows.specs.declared.near.Near.{Near}

-- the number is the greatest with P; nothing if there is none
abbrev pub IsLast : (ℕ → Type 0) → Option ℕ → Type 0
IsLast P None = (k : ℕ) → P k → ⊥
IsLast P (Some m) = P m × ((k : ℕ) → P k → k ≤ m)

-- the number is the least with P; nothing if there is none
abbrev pub IsFirst : (ℕ → Type 0) → Option ℕ → Type 0
IsFirst P None = (k : ℕ) → P k → ⊥
IsFirst P (Some m) = P m × ((k : ℕ) → P k → m ≤ k)

-- near has the greatest number with P that isn't above the number, and the least that isn't below it, each if there is
-- one
pub record IsNear (P : ℕ → Type 0) (number : ℕ) (near : Near) : Type 0 where
  pub below : IsLast (λ m. P m × (m ≤ number)) near.below
  pub above : IsFirst (λ m. P m × (number ≤ m)) near.above

-- the greater of two numbers, of those that are there
abbrev pub greater : Option ℕ → Option ℕ → Option ℕ
greater None b = b
greater (Some x) None = Some x
greater (Some x) (Some y) = Some (if nat_lt x y then y else x)

-- the lesser of two numbers, of those that are there
abbrev pub less : Option ℕ → Option ℕ → Option ℕ
less None b = b
less (Some x) None = Some x
less (Some x) (Some y) = Some (if nat_lt y x then y else x)

-- the number, if there is one and it isn't above most
abbrev pub up_to : ℕ → Option ℕ → Option ℕ
up_to most None = None
up_to most (Some n) = if nat_lt most n then None else Some n
