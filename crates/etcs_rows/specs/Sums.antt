-- Sums of numbers of sets.
use Rattle.std.specs.Prelude.{◌≡◌, ℕ, zero, suc, ◌+◌}

-- m is the sum of a number of A and a number of B
abbrev pub Plus : (ℕ → Type 0) → (ℕ → Type 0) → ℕ → Type 0
Plus A B m = (j : ℕ) × (k : ℕ) × A j × B k × (j + k ≡ m)

-- m is the sum of n numbers of A, each of which may be taken more than once
abbrev pub SumOf : ℕ → (ℕ → Type 0) → ℕ → Type 0
SumOf zero A m = m ≡ 0
SumOf (suc n) A m = Plus A (SumOf n A) m
