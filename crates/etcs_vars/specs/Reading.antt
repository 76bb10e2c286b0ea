-- Readings: what a list of bits spells, as variables in the order in which they are sent, each with its number. A list
-- of bits is never described directly: all else follows from readings. Packets, telegrams and messages are languages,
-- sets of readings (SUBSET-026, 7.4 and 8).
use Rattle.std.specs.Prelude.{◌≡◌, ℕ, zero, suc, ◌+◌, ◌-◌, ◌≤◌, ◌<◌, Bool, List, [], ◌∷◌, ◌++◌, length, take, map, flat_map, Option, Some, None, IsTrue, nat_lt, if◌then◌else◌}
use Rattle.etcs_bits.specs.Bits.{num}
use Rattle.etcs_vars.specs.declared.var.Var.{Var}
use Rattle.etcs_vars.specs.Vars.{width, admits}

-- a variable and its number
abbrev pub Sent : Type 0
Sent = Var × ℕ

-- a reading: pairs of a variable and its number, in the order of sending
abbrev pub Reading : Type 0
Reading = List Sent

-- the bits of a reading: each number in its variable's width, one after another
abbrev pub spelled : Reading → List Bool
spelled r = flat_map (λ p. num (width p.0) p.1) r

-- the numbers of a reading, without their variables
abbrev pub numbers : Reading → List ℕ
numbers r = map (λ p. p.1) r

-- each pair's variable admits its number
abbrev pub IsAdmitted : Reading → Type 0
IsAdmitted [] = Unit {0}
IsAdmitted (p ∷ r) = IsTrue (admits p.0 p.1) × IsAdmitted r

-- bits that are kept as they are (FILL, PAD): one pair of the variable, which has width 1, for each bit
abbrev pub kept : Var → List Bool → Reading
kept v bs = map (λ b. (v, if b then 1 else 0)) bs

-- the variable of a reading that holds bit i of its spelling, counted from 0; nothing past its end
abbrev pub holder : Reading → ℕ → Option Var
holder [] i = None
holder (p ∷ r) i = if nat_lt i (width p.0) then Some p.0 else holder r (i - width p.0)

-- ---- A language is a set of readings.

-- r is a reading of P, and after it one of Q
abbrev pub Then : (Reading → Type 0) → (Reading → Type 0) → Reading → Type 0
Then P Q r = (first : Reading) × (rest : Reading) × (r ≡ first ++ rest) × P first × Q rest

-- r is n readings of P, one after another
abbrev pub Times : ℕ → (Reading → Type 0) → Reading → Type 0
Times zero P r = r ≡ []
Times (suc n) P r = Then P (Times n P) r

-- the bits b are a spelling: those of some reading of the language L
abbrev pub InLanguage : (Reading → Type 0) → List Bool → Type 0
InLanguage L b = (r : Reading) × L r × (spelled r ≡ b)

-- some continuation of the bits b is a spelling of the language L
abbrev pub Viable : (Reading → Type 0) → List Bool → Type 0
Viable L b = (r : Reading) × (c : List Bool) × L r × (spelled r ≡ b ++ c)

-- the bits b are viable and no spelling, and in every spelling that begins with b the variable x holds the next bit
pub record Owner (L : Reading → Type 0) (b : List Bool) (x : Var) : Type 0 where
  pub viable : Viable L b
  pub open_end : InLanguage L b → ⊥
  pub holds : (r : Reading) (c : List Bool) → L r → spelled r ≡ b ++ c → holder r (length b) ≡ Some x

-- ---- What a reader of bits returns.

-- what a reader of bits finds: the first k bits spell v (done); bit i is refused, and x holds it (refused); or neither
-- yet (more)
pub data Outcome (V : Type 0) : Type 0 where
  done : V → ℕ → Outcome V
  refused : ℕ → Var → Outcome V
  more : Outcome V

-- no front of the bits b is a spelling of the language L: neither none of them, nor the first few, nor all
abbrev pub NoneYet : (Reading → Type 0) → List Bool → Type 0
NoneYet L b = (k : ℕ) → k ≤ length b → InLanguage L (take k b) → ⊥

-- the language of the readings of all values: r is a reading of some value
abbrev pub readings_of : {V : Type 0} → (V → Reading → Type 0) → Reading → Type 0
readings_of {V} Reads r = (v : V) × Reads v r

-- an outcome that need not be exact: as IsOutcome, but of refused it is open whether the bits before are viable and
-- what holds bit i, and of more whether the bits are viable
abbrev pub IsAnswer : {V : Type 0} → (V → Reading → Type 0) → List Bool → Outcome V → Type 0
IsAnswer Reads b (done v k) = (k ≤ length b) × (r : Reading) × Reads v r × (spelled r ≡ take k b)
IsAnswer Reads b (refused i x) = NoneYet (readings_of Reads) b × (i < length b) × (Viable (readings_of Reads) (take (i + 1) b) → ⊥)
IsAnswer Reads b more = NoneYet (readings_of Reads) b

-- the exact outcome of the bits b, in which Reads v r means that r is a reading of the value v. done v k: the first k
-- bits are a spelling of v. refused i x: no front is a spelling, the first i bits are viable and the first i + 1
-- aren't, and x holds bit i in every spelling that begins with the first i: bit i is the first after which no
-- continuation is a spelling. more: no front is a spelling, and the bits are viable.
abbrev pub IsOutcome : {V : Type 0} → (V → Reading → Type 0) → List Bool → Outcome V → Type 0
IsOutcome Reads b (done v k) = IsAnswer Reads b (done v k)
IsOutcome Reads b (refused i x) = IsAnswer Reads b (refused i x) × Owner (readings_of Reads) (take i b) x
IsOutcome Reads b more = IsAnswer Reads b more × Viable (readings_of Reads) b
