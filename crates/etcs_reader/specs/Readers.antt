-- What a reader keeps between two bits, and what new bits do to it. A rest that is read is given by what is left of it,
-- the variable that comes next, what follows it and at which of its states memory may run out (fails).
use Rattle.std.specs.Prelude.{◌≡◌, ℕ, ◌+◌, ◌-◌, ◌^◌, ◌<◌, ◌≤◌, Bool, List, ◌++◌, length, take, drop, Option, Some, None}
use Rattle.etcs_bits.specs.Bits.{num, part}
use Rattle.etcs_vars.specs.declared.var.Var.{Var}
use Rattle.etcs_vars.specs.Vars.{width}
use Rattle.etcs_vars.specs.Reading.{Reading, spelled, InLanguage, Viable, Owner}
use Rattle.etcs_vars.specs.Walking.{Refuses}
use Rattle.etcs_reader.specs.declared.reader.Halt.{Halt}
use Rattle.etcs_reader.specs.declared.reader.Halt.TheVariants.{Refused, Memory}
use Rattle.etcs_reader.specs.declared.reader.Reader.{Reader}
use Rattle.etcs_reader.specs.Rests.{Starts, Goes, BeginsWith}

-- the first bits of a number, fewer than the variable that comes next is wide, with which something continues; if
-- nothing comes next there are none
pub record Unfinished (L : Reading → Type 0) (next : Option Var) (number taken : ℕ) : Type 0 where
  pub fits : number < 2 ^ taken
  pub goes : Goes L
  pub inside : (x : Var) → next ≡ Some x → (taken < width x) × Starts L x (width x - taken) number
  pub ended : next ≡ None → taken ≡ 0

-- the bits b are those of whole variables, after which a rest follows, and then these bits of the variable that comes
-- next
pub record Passed (Follows : Reading → Type 0) (b part : List Bool) : Type 0 where
  pub whole : Reading
  pub follows : Follows whole
  pub bits : spelled whole ++ part ≡ b

-- ---- What the new bits xs do after the bits b of the variable that comes next in s.

-- n of them are taken, after which t is left and b' are the bits of its next variable: all, if a variable comes next,
-- which then holds the next bit, or those up to the end, which spell what was left
pub record Takes (R : Type 0) (left : R → Reading → Type 0) (next : R → Option Var) (follows : R → Reading → R → Type 0) (s : R) (b xs : List Bool) (n : ℕ) (t : R) (b' : List Bool) : Type 0 where
  pub within : n ≤ length xs
  pub passed : Passed (λ p. follows s p t) (b ++ take n xs) b'
  pub done : next t ≡ None → InLanguage (left s) (b ++ take n xs)
  pub more : (x : Var) → next t ≡ Some x → (n ≡ length xs) × Owner (left s) (b ++ take n xs) x

-- n of them are taken, after which t is left and b' are the bits of its next variable, x, which holds the bit after
-- them, and this is refused; b' is shorter than x is wide, and something is left of t
pub record RefusesAt (R : Type 0) (left : R → Reading → Type 0) (next : R → Option Var) (follows : R → Reading → R → Type 0) (s : R) (b xs : List Bool) (n : ℕ) (x : Var) (t : R) (b' : List Bool) : Type 0 where
  pub refuses : Refuses (left s) (b ++ xs) (length b + n) x
  pub passed : Passed (λ p. follows s p t) (b ++ take n xs) b'
  pub here : next t ≡ Some x
  pub short : length b' < width x
  pub goes : Goes (left t)

-- memory runs out after n of them, at a state at which it may; the bit after them isn't refused, and one variable, the
-- holder, holds it and begins all that is left there
pub record StarvesAt (R : Type 0) (left : R → Reading → Type 0) (follows : R → Reading → R → Type 0) (fails : R → Type 0) (s : R) (b xs : List Bool) (n : ℕ) : Type 0 where
  pub within : n < length xs
  pub viable : Viable (left s) (b ++ take (n + 1) xs)
  pub place : R
  pub part : List Bool
  pub passed : Passed (λ p. follows s p place) (b ++ take n xs) part
  pub here : fails place
  pub holder : Var
  pub begins : BeginsWith (left place) holder
  pub owned : Owner (left place) part holder

-- ---- By the fields of a reader.

-- the bits so far of the variable that comes next
abbrev pub part_of : {R : Type 0} → Reader R → List Bool
part_of r = num r.taken r.number

-- what is always true of a reader: its bits are the first ones of a number with which something continues
abbrev pub IsReader : (R : Type 0) → (R → Reading → Type 0) → (R → Option Var) → Reader R → Type 0
IsReader R left next r = Unfinished (left r.rest) (next r.rest) r.number r.taken

-- n of the bits xs are taken from at on, all of one variable or of several whole ones
pub record Advances (R : Type 0) (left : R → Reading → Type 0) (next : R → Option Var) (follows : R → Reading → R → Type 0) (old : Reader R) (xs : List Bool) (at n : ℕ) (new : Reader R) : Type 0 where
  pub reader : IsReader R left next new
  pub some : 0 < n
  pub inside : at + n ≤ length xs
  pub passed : Passed (λ p. follows old.rest p new.rest) (part_of old ++ part at n xs) (part_of new)

-- why no more of the bits xs are taken from at on: a bit is refused, or memory ran out
abbrev pub Halts : (R : Type 0) → (R → Reading → Type 0) → (R → Option Var) → (R → Reading → R → Type 0) → (R → Type 0) → Reader R → List Bool → ℕ → Halt → Reader R → Type 0
Halts R left next follows fails old xs at (Refused i x) new = (n : ℕ) × (i ≡ at + n) × RefusesAt R left next follows old.rest (part_of old) (drop at xs) n x new.rest (part_of new)
Halts R left next follows fails old xs at (Memory i) new = (n : ℕ) × (i ≡ at + n) × StarvesAt R left follows fails old.rest (part_of old) (drop at xs) n

-- how many bits of the piece are before the halt
abbrev pub place_of : Halt → ℕ
place_of (Refused i x) = i
place_of (Memory i) = i

-- why no more of all the bits xs are taken, after the bits b of the variable that comes next in s
abbrev pub HaltsIn : (R : Type 0) → (R → Reading → Type 0) → (R → Option Var) → (R → Reading → R → Type 0) → (R → Type 0) → R → List Bool → List Bool → Halt → Reader R → Type 0
HaltsIn R left next follows fails s b xs (Refused i x) new = RefusesAt R left next follows s b xs i x new.rest (part_of new)
HaltsIn R left next follows fails s b xs (Memory i) new = StarvesAt R left follows fails s b xs i
