-- What bits are, variable by variable.
use Rattle.std.specs.Prelude.{◌≡◌, ℕ, ◌<◌, ◌≤◌, Bool, List, ◌∷◌, ◌++◌, length, take}
use Rattle.etcs_bits.specs.Bits.{num}
use Rattle.etcs_vars.specs.declared.var.Var.{Var}
use Rattle.etcs_vars.specs.Vars.{width}
use Rattle.etcs_vars.specs.Reading.{Reading, spelled, Owner}
use Rattle.etcs_vars.specs.Walking.{Refuses}
use Rattle.etcs_text.specs.declared.account.End.{End}
use Rattle.etcs_text.specs.declared.account.End.TheVariants.{Whole, Open, Refused}

-- the bits b are the spelling of the variables p and then the bits part, and in a reading of L the variable x follows p
pub record Shows (L : Reading → Type 0) (p : Reading) (x : Var) (part b : List Bool) : Type 0 where
  pub number : ℕ
  pub rest : Reading
  pub begins : L (p ++ (x, number) ∷ rest)
  pub bits : spelled p ++ part ≡ b

-- how the bits b are accounted for by the variables p, with this end:
--   Whole: p is a reading of L, and b begins with its spelling
--   Open: b is the spelling of p and then the bits of the part, in a reading of L the part's variable follows p, and in every
--     reading of L whose spelling begins with b it holds the next bit; there is one, and b isn't one itself
--   Refused: the bit is the first with which no spelling of a reading of L continues, and the part's variable holds it; the
--     bits before it are the spelling of p and then the bits of the part, and in a reading of L that variable follows p
-- The part has fewer bits than its variable: p are all whole variables before them.
abbrev pub Accounts : (Reading → Type 0) → Reading → End → List Bool → Type 0
Accounts L p Whole b = L p × (n : ℕ) × (n ≤ length b) × (spelled p ≡ take n b)
Accounts L p (Open part) b = Shows L p part.var (num part.count part.bits) b × Owner L b part.var × (part.count < width part.var)
Accounts L p (Refused bit part) b = Shows L p part.var (num part.count part.bits) (take bit b) × Refuses L b bit part.var × (part.count < width part.var)
