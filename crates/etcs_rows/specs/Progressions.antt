-- Numbers in equal steps.
use Rattle.std.specs.Prelude.{◌≡◌, ℕ, ◌+◌, ◌*◌, ◌≤◌, ◌↔◌, Option, Some, None, MatchBool}
use Rattle.etcs_tables.specs.declared.item.Test.{Test}
use Rattle.etcs_rows.specs.declared.progression.Progression.{Progression}
use Rattle.etcs_tables.specs.Layouts.{passes}
use Rattle.etcs_rows.specs.Sums.{SumOf}

-- m is one of first, first + step and so on, count + 1 of them
unfoldable pub InProgression : Progression → ℕ → Type 0
InProgression s m = (i : ℕ) × (i ≤ s.count) × (s.first + i * s.step ≡ m)

-- m is a number from 0 to n
abbrev pub AtMost : ℕ → ℕ → Type 0
AtMost n m = m ≤ n

-- the numbers of the progression are those of A
abbrev pub IsProgression : Progression → (ℕ → Type 0) → Type 0
IsProgression s A = (m : ℕ) → InProgression s m ↔ A m

-- m is one of the numbers of the progression, if there is one
abbrev pub InAny : Option Progression → ℕ → Type 0
InAny None m = ⊥
InAny (Some s) m = InProgression s m

-- m is a sum of n of the numbers, for some n from first to last
abbrev pub TimesWithin : Progression → ℕ → ℕ → ℕ → Type 0
TimesWithin s first last m = (n : ℕ) × (first ≤ n) × (n ≤ last) × SumOf n (InProgression s) m

-- m is one of the numbers if n passes the test, and else 0
abbrev pub InGuarded : Test → Progression → ℕ → ℕ → Type 0
InGuarded test s n m = MatchBool (passes test n) (InProgression s m) (m ≡ 0)
