-- What a reader of a language holds between two pieces: whole variables, and the first bits of the next one.
use Rattle.std.specs.Prelude.{◌≡◌, ℕ, ◌^◌, ◌<◌, Bool, List, ◌∷◌, ◌++◌}
use Rattle.etcs_bits.specs.Bits.{num}
use Rattle.etcs_vars.specs.declared.var.Var.{Var}
use Rattle.etcs_vars.specs.Vars.{width}
use Rattle.etcs_vars.specs.Reading.{Reading, spelled, Owner}
use Rattle.etcs_sequence.specs.Progress.{Progress, reading}

-- the bits b are those of whole variables, of which Members holds, and then `taken` bits, fewer than the next variable
-- is wide, which are the number `part`; every reading of L that begins with b continues after the whole variables with
-- the next one, which holds its next bit, and some reading begins with b
pub record HeldIn (L Members : Reading → Type 0) (b : List Bool) (part taken : ℕ) : Type 0 where
  pub far : Reading
  pub next : Var
  pub bits : b ≡ spelled far ++ num taken part
  pub fits : part < 2 ^ taken
  pub members : Members far
  pub begins : (r : Reading) (c : List Bool) → L r → spelled r ≡ b ++ c → (n : ℕ) × (q : Reading) × (r ≡ far ++ (next, n) ∷ q)
  pub owned : Owner L b next
  pub short : taken < width next

-- the progress is `reading b`, and HeldIn of the bits b
abbrev pub IsHeld : {V : Type 0} → (L Members : Reading → Type 0) → Progress V → ℕ → ℕ → Type 0
IsHeld L Members s part taken = (b : List Bool) × (s ≡ reading b) × HeldIn L Members b part taken
