-- Codes: a part of a row as a value, and how the value and its variables go together (rows of SUBSET-026, 7.4).
use Rattle.std.proofs.Common.{◌≡◌, ℕ, Bool, true, false, List, [], ◌∷◌, ◌++◌, length, Option, Some, None}
use Rattle.std.specs.Prelude.{if◌then◌else◌, flat_map, All}
use Rattle.etcs_vars.specs.declared.var.Var.{Var}
use Rattle.etcs_vars.specs.Vars.{width, admits}
use Rattle.etcs_vars.specs.Faults.{number_fault}
use Rattle.etcs_vars.specs.Reading.{Reading}
use Rattle.etcs_tables.specs.declared.item.Test.{Test}
use Rattle.etcs_tables.specs.Layouts.{Layout, whole, one, guarded, Scope, Reads, passes}
use Rattle.etcs_bodies.specs.Faults.{count_fault}
use Rattle.etcs_bodies.specs.Taking.{Left, ahead, ◌and_then◌, next_number, next_flag, times_from}

-- r is the reading of a value, and after it a reading of rest
abbrev pub Found : {V : Type 0} → (V → Type 0) → (V → Reading) → Layout → Reading → Type 0
Found {V} IsValue reading rest r = (v : V) × (x : Reading) × (t : Scope) × IsValue v × (r ≡ reading v ++ x) × Reads rest t x

-- what is left is the variables of the value v, and after them t
abbrev pub Stands : {V : Type 0} → (V → Type 0) → (V → Reading) → Left → V → Left → Type 0
Stands IsValue reading s v t = IsValue v × (s ≡ ahead (reading v) t)

-- how a value and its variables go together: which values there are, the reading of one, and the value with which what
-- is left begins. What was sent of a value is read as it (complete), what is read was sent so (sound), and the readings
-- of values are exactly those of the part of the row (into, out)
pub record Codes {V : Type 0} (row : Layout → Layout) (IsValue : V → Type 0) (reading : V → Reading) (from : Left → Option (V × Left)) : Type 0 where
  pub complete : (v : V) (s : Left) → IsValue v → from (ahead (reading v) s) ≡ Some (v, s)
  pub sound : (v : V) (s t : Left) → from s ≡ Some (v, t) → Stands IsValue reading s v t
  pub into : (v : V) (rest : Layout) (s : Scope) (x : Reading) → IsValue v → ((t : Scope) → Reads rest t x) → Reads (row rest) s (reading v ++ x)
  pub out : (rest : Layout) (s : Scope) (r : Reading) → Reads (row rest) s r → Found IsValue reading rest r

-- ---- One after another.

-- a pair of which each is a value of its kind
abbrev pub IsBoth : {V W : Type 0} → (V → Type 0) → (W → Type 0) → V × W → Type 0
IsBoth IsV IsW p = IsV p.0 × IsW p.1

-- the variables of a pair, the first before the second
abbrev pub both_reading : {V W : Type 0} → (V → Reading) → (W → Reading) → V × W → Reading
both_reading reading reading' p = reading p.0 ++ reading' p.1

-- the pair with which what is left begins, one after the other, and what is left after it
abbrev pub both_from : {V W : Type 0} → (Left → Option (V × Left)) → (Left → Option (W × Left)) → Left → Option ((V × W) × Left)
both_from from from' f = from f and_then λ v. from' v.1 and_then λ w. Some ((v.0, w.0), w.1)

-- ---- A group that is there if a test holds of the number of a variable.

-- a group, if it is there, with which what is left begins, and what is left after it
abbrev pub opened : {W : Type 0} → (Left → Option (W × Left)) → Bool → Left → Option (Option W × Left)
opened from b f = if b then (from f and_then λ w. Some (Some w.0, w.1)) else Some (None, f)

-- a number of the variable v and a group, which is there exactly if the number passes the test
abbrev pub IsGroup : {W : Type 0} → Var → Test → (W → Type 0) → ℕ × Option W → Type 0
IsGroup v test IsW (n, None) = (number_fault v n ≡ None) × (passes test n ≡ false)
IsGroup v test IsW (n, Some w) = (number_fault v n ≡ None) × (passes test n ≡ true) × IsW w

-- the variables of a number and of the group after it, if it is there
abbrev pub group_reading : {W : Type 0} → Var → (W → Reading) → ℕ × Option W → Reading
group_reading v reading (n, None) = (v, n) ∷ []
group_reading v reading (n, Some w) = (v, n) ∷ reading w

-- the number and the group after it, if the number passes the test, with which what is left begins, and what is left
-- after them
abbrev pub group_from : {W : Type 0} → Var → Test → (Left → Option (W × Left)) → Left → Option ((ℕ × Option W) × Left)
group_from v test from f = next_number v f and_then λ n. opened from (passes test n.0) n.1 and_then λ o. Some ((n.0, o.0), o.1)

-- the row of a variable and the group that it guards, before a rest
abbrev pub group_row : Var → Test → (Layout → Layout) → Layout → Layout
group_row v test row rest = one v (guarded (record { var = v; test = test }) (row whole) rest)

-- ---- Variables of one bit.

-- a variable of one bit that admits 0 and 1
abbrev pub IsFlag : Var → Type 0
IsFlag v = (width v ≡ 1) × (admits v 0 ≡ true) × (admits v 1 ≡ true)

-- a group that need not be there is a value of its kind if it is there
abbrev pub IsOptional : {W : Type 0} → (W → Type 0) → Option W → Type 0
IsOptional IsW None = Unit {0}
IsOptional IsW (Some w) = IsW w

-- the variables of a flag and of the group after it: 1 and the group, or 0 alone
abbrev pub optional_reading : {W : Type 0} → Var → (W → Reading) → Option W → Reading
optional_reading v reading None = (v, 0) ∷ []
optional_reading v reading (Some w) = (v, 1) ∷ reading w

-- the group after a flag, if it is there, with which what is left begins, and what is left after it
abbrev pub optional_from : {W : Type 0} → Var → (Left → Option (W × Left)) → Left → Option (Option W × Left)
optional_from v from f = next_flag v f and_then λ b. opened from b.0 b.1

-- ---- The same value in another form, with its reading written out.

-- a value under another form with which what is left begins, and what is left after it
abbrev pub form_from : {V W : Type 0} → (V → W) → (Left → Option (V × Left)) → Left → Option (W × Left)
form_from to from f = from f and_then λ v. Some (to v.0, v.1)

-- the two forms of a value, and what makes the new one a value
pub record Forms {V W : Type 0} (IsV : V → Type 0) (reading : V → Reading) (to : V → W) (IsW : W → Type 0) (shown : W → Reading) : Type 0 where
  pub back : W → V
  pub there : (w : W) → to (back w) ≡ w
  pub again : (v : V) → back (to v) ≡ v
  pub is : (w : W) → IsW w → IsV (back w)
  pub so : (v : V) → IsV v → IsW (to v)
  pub same : (w : W) → reading (back w) ≡ shown w

-- ---- A list after its count.

-- a list of values, as many as the variable v of their count admits
abbrev pub IsEntries : {V : Type 0} → Var → (V → Type 0) → List V → Type 0
IsEntries v IsV vs = (count_fault v (length vs) ≡ None) × All IsV vs

-- the variables of a list: its count, and those of each value, in order
abbrev pub list_reading : {V : Type 0} → Var → (V → Reading) → List V → Reading
list_reading v reading vs = (v, length vs) ∷ flat_map reading vs

-- a count that its variable admits and as many values with which what is left begins, and what is left after them
abbrev pub list_from : {V : Type 0} → Var → (Left → Option (V × Left)) → Left → Option (List V × Left)
list_from v from f = next_number v f and_then λ n. times_from from n.0 n.1
