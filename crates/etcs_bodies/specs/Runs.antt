-- Variables one after another, whose numbers are taken together, from a list or from a word.
use Rattle.std.specs.Prelude.{◌≡◌, ℕ, ◌+◌, ◌≤◌, Bool, List, length, drop, Some, None, IsTrue, ◌⊎◌}
use Rattle.etcs_bits.specs.Bits.{num, part}
use Rattle.etcs_vars.specs.declared.var.Var.{Var}
use Rattle.etcs_vars.specs.Vars.{admits}
use Rattle.etcs_vars.specs.Faults.{number_fault}
use Rattle.etcs_bodies.specs.Taking.{Left, in_bits, next_number}

-- n is the number with which what is left, s, begins, the variable v admits it, and t is left after it
abbrev pub TakesNumber : Var → Left → ℕ → Left → Type 0
TakesNumber v s n t = (next_number v s ≡ Some (n, t)) × (number_fault v n ≡ None) × IsTrue (admits v n)

-- both are taken, one after the other, and t is left after them
abbrev pub TakesBoth : {V W : Type 0} → (Left → V → Left → Type 0) → (Left → W → Left → Type 0) → Left → V × W → Left → Type 0
TakesBoth takes takes' s p t = (u : Left) × takes s p.0 u × takes' u p.1 t

-- the first can't be taken, or the second can't after it
abbrev pub LacksOne : {V : Type 0} → (Left → V → Left → Type 0) → (Left → Type 0) → (Left → Type 0) → Left → Type 0
LacksOne {V} takes lacks lacks' s = lacks s ⊎ ((v : V) × (u : Left) × takes s v u × lacks' u)

-- they are taken from the w bits of b from bit k on
abbrev pub TakesBits : {V : Type 0} → (Left → V → Left → Type 0) → ℕ → List Bool → ℕ → Type 0
TakesBits {V} takes w b k = (k + w ≤ length b) × (v : V) × takes (in_bits (drop k b)) v (in_bits (drop (k + w) b))

-- the width lowest bits of a word are those of b from bit k on
pub record LiesAt (word width : ℕ) (b : List Bool) (k : ℕ) : Type 0 where
  pub inside : k + width ≤ length b
  pub bits : num width word ≡ part k width b
