-- How many bits a row may take, as sets of numbers (rows of SUBSET-026, 7.4). Only the numbers of variables that groups
-- look at matter here.
use Rattle.std.specs.Prelude.{◌≡◌, ℕ, ◌+◌, ◌≤◌, Bool, true, false, not, IsTrue, MatchBool, length}
use Rattle.etcs_vars.specs.declared.var.Var.{Var}
use Rattle.etcs_vars.specs.Vars.{width, admits}
use Rattle.etcs_vars.specs.Reading.{Reading, spelled}
use Rattle.etcs_tables.specs.Layouts.{Layout, whole, one, guarded, counted, passes}
use Rattle.etcs_rows.specs.Sums.{Plus, SumOf}

-- m is the length in bits of some reading of the language L
abbrev pub LengthOf : (Reading → Type 0) → ℕ → Type 0
LengthOf L m = (r : Reading) × L r × (length (spelled r) ≡ m)

-- m is the length in bits of some reading of the row after a variable whose number is n
unfoldable pub LengthsBy : Layout → ℕ → ℕ → Type 0
LengthsBy whole n m = m ≡ 0
LengthsBy (one v rest) n m = (k : ℕ) × (j : ℕ) × IsTrue (admits v k) × LengthsBy rest k j × (width v + j ≡ m)
LengthsBy (guarded g group rest) n m = MatchBool (passes g.test n) (Plus (LengthsBy group n) (LengthsBy rest n) m) (LengthsBy rest n m)
LengthsBy (counted group rest) n m = Plus (SumOf n (LengthsBy group n)) (LengthsBy rest n) m

-- the groups that a row begins with
abbrev pub front : Layout → Layout
front whole = whole
front (one v rest) = whole
front (guarded g group rest) = guarded g group (front rest)
front (counted group rest) = counted group (front rest)

-- the row without the groups that it begins with
abbrev pub beyond : Layout → Layout
beyond whole = whole
beyond (one v rest) = one v rest
beyond (guarded g group rest) = beyond rest
beyond (counted group rest) = beyond rest

-- the row begins with a group
abbrev pub begins_with_group : Layout → Bool
begins_with_group whole = false
begins_with_group (one v rest) = false
begins_with_group (guarded g group rest) = true
begins_with_group (counted group rest) = true

-- m is in one of the sets F n, for a number n from low to high that the variable v admits
abbrev pub SetsWithin : Var → (ℕ → ℕ → Type 0) → ℕ → ℕ → ℕ → Type 0
SetsWithin v F low high m = (n : ℕ) × (low ≤ n) × (n ≤ high) × IsTrue (admits v n) × F n m

-- m is a length of the groups that rest begins with, after a number from low to high that the variable v admits
abbrev pub GroupsWithin : Var → Layout → ℕ → ℕ → ℕ → Type 0
GroupsWithin v rest low high m = (n : ℕ) × (low ≤ n) × (n ≤ high) × IsTrue (admits v n) × LengthsBy (front rest) n m

-- m is a length of the variable v and the rest, if the number of v is from low to high
abbrev pub FirstWithin : Var → Layout → ℕ → ℕ → ℕ → Type 0
FirstWithin v rest low high m = (n : ℕ) × (j : ℕ) × (low ≤ n) × (n ≤ high) × IsTrue (admits v n) × LengthsBy rest n j × (width v + j ≡ m)

-- some reading of the row takes m bits, at most 8,191, and begins with a number of its first variable from low to high
abbrev pub FitsWithin : Layout → ℕ → ℕ → ℕ → Type 0
FitsWithin whole low high m = ⊥
FitsWithin (one v rest) low high m = FirstWithin v rest low high m × (m ≤ 8191)
FitsWithin (guarded g group rest) low high m = ⊥
FitsWithin (counted group rest) low high m = ⊥

-- no group looks at the next variable
abbrev pub is_free : Layout → Bool
is_free whole = true
is_free (one v rest) = not (begins_with_group rest)
is_free (guarded g group rest) = false
is_free (counted group rest) = false
