-- What a feeder stands for, and what it does with a piece of bits.
use Rattle.std.specs.Prelude.{◌≡◌, ℕ, ◌+◌, Bool, List, [], ◌∷◌, Option, Some, None, Result, Ok, Err}
use Rattle.etcs_vars.specs.declared.var.Var.{Var}
use Rattle.etcs_vars.specs.Reading.{Reading}
use Rattle.etcs_reader.specs.declared.reader.Halt.{Halt}
use Rattle.etcs_reader.specs.declared.reader.Halt.TheVariants as halt
use Rattle.etcs_reader.specs.declared.feeder.Stop.{Stop}
use Rattle.etcs_reader.specs.declared.feeder.Stop.TheVariants.{Refused, Memory}
use Rattle.etcs_reader.specs.Readers.{Passed, Takes, RefusesAt, StarvesAt}

-- what a feeder stands for: what is left of the language, the bits so far of its next variable, how many bits were
-- taken, and why no more are taken, if it stopped
pub record FeederValue (R : Type 0) : Type 0 where
  pub rest : R
  pub part : List Bool
  pub count : ℕ
  pub stop : Option Stop

-- a feeder of all that is left in s: it has taken no bit
abbrev pub all_of : {R : Type 0} → R → FeederValue R
all_of s = record { rest = s; part = []; count = 0; stop = None }

-- what a feeder does with the new bits xs. Ok n: n of them are taken, all or up to the language's end. Refused: bit i,
-- counted from the first that was fed, is the first with which nothing continues, x holds it, and those before it are
-- taken. Memory: memory ran out at a bit with which something continues, and no clause says what is left
abbrev pub Feeds : (R : Type 0) → (R → Reading → Type 0) → (R → Option Var) → (R → Reading → R → Type 0) → (R → Type 0) → FeederValue R → List Bool → Result ℕ Stop → FeederValue R → Type 0
Feeds R left next follows fails old xs (Ok n) new = (new.stop ≡ None) × (new.count ≡ old.count + n) × Takes R left next follows old.rest old.part xs n new.rest new.part
Feeds R left next follows fails old xs (Err (Refused i x)) new = (new.stop ≡ Some (Refused i x)) × (new.count ≡ i) × (n : ℕ) × (i ≡ old.count + n) × RefusesAt R left next follows old.rest old.part xs n x new.rest new.part
Feeds R left next follows fails old xs (Err Memory) new = (new.stop ≡ Some Memory) × (n : ℕ) × (new.count ≡ old.count + n) × StarvesAt R left follows fails old.rest old.part xs n

-- the stop for a halt after count bits
abbrev pub stop_at : ℕ → Halt → Stop
stop_at count (halt.Refused i x) = Refused count x
stop_at count (halt.Memory i) = Memory

-- what a feeder does with one bit: what it does with a piece of this bit alone
abbrev pub TakesBit : (R : Type 0) → (R → Reading → Type 0) → (R → Option Var) → (R → Reading → R → Type 0) → (R → Type 0) → FeederValue R → Bool → Result (Unit {0}) Stop → FeederValue R → Type 0
TakesBit R left next follows fails old b (Ok _) new = Feeds R left next follows fails old (b ∷ []) (Ok 1) new
TakesBit R left next follows fails old b (Err stop) new = Feeds R left next follows fails old (b ∷ []) (Err stop) new

-- what a feeder does with new bits after what is left holds of the whole language, start, and of all bits b that were
-- fed since then, in place of the bits of its next variable
abbrev pub FedFrom : (R : Type 0) → (R → Reading → Type 0) → (R → Option Var) → (R → Reading → R → Type 0) → (R → Type 0) → Type 0
FedFrom R left next follows fails =
    (start : R) (b : List Bool) (old : FeederValue R) (xs : List Bool) (result : Result ℕ Stop) (new : FeederValue R)
    → Passed (λ p. follows start p old.rest) b old.part
    → Feeds R left next follows fails old xs result new
    → Feeds R left next follows fails (record old { rest = start; part = b }) xs result new
