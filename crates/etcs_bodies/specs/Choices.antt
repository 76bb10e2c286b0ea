-- A choice between two groups by the number or the flag before them (groups as in SUBSET-026, 7.4).
use Rattle.std.proofs.Common.{◌≡◌, ℕ, Bool, true, false, ◌∷◌, Option, Some, None, ◌⊎◌, inl, inr}
use Rattle.etcs_vars.specs.declared.var.Var.{Var}
use Rattle.etcs_vars.specs.Faults.{number_fault}
use Rattle.etcs_vars.specs.Reading.{Reading}
use Rattle.etcs_tables.specs.declared.item.Test.{Test}
use Rattle.etcs_tables.specs.declared.item.Test.TheVariants.{IsZero, IsOne}
use Rattle.etcs_tables.specs.Layouts.{Layout, whole, one, guarded, passes}
use Rattle.etcs_bodies.specs.Taking.{Left, ◌and_then◌, next_number, next_flag}

-- ---- One group if the number passes a test, another if it doesn't.

-- a number of the variable v with the group for it: the first if the number passes the test, else the second
abbrev pub IsChoice : {W : Type 0} → Var → Test → (Bool → W → Type 0) → ℕ × W → Type 0
IsChoice v test IsW p = (number_fault v p.0 ≡ None) × IsW (passes test p.0) p.1

-- the variables of a number and the group for it, in the order of sending
abbrev pub choice_reading : {W : Type 0} → Var → Test → (Bool → W → Reading) → ℕ × W → Reading
choice_reading v test reading p = (v, p.0) ∷ reading (passes test p.0) p.1

-- the number and the group for it with which what is left begins, and what is left after them
abbrev pub choice_from : {W : Type 0} → Var → Test → (Bool → Left → Option (W × Left)) → Left → Option ((ℕ × W) × Left)
choice_from v test from f = next_number v f and_then λ n. from (passes test n.0) n.1 and_then λ w. Some ((n.0, w.0), w.1)

-- the row of a choice, before a rest: the first group is there if test holds, the second if other holds
abbrev pub choice_row : Var → Test → Test → (Bool → Layout → Layout) → Layout → Layout
choice_row v test other row rest =
    one v (guarded (record { var = v; test = test }) (row true whole) (guarded (record { var = v; test = other }) (row false whole) rest))

-- ---- After a flag one group if it is 1, another if it is 0.

-- one of two groups, which is a value of its kind
abbrev pub IsEither : {A B : Type 0} → (A → Type 0) → (B → Type 0) → A ⊎ B → Type 0
IsEither IsA IsB (inl a) = IsA a
IsEither IsA IsB (inr b) = IsB b

-- the variables of a flag and the group for it: 1 before the first, 0 before the second
abbrev pub either_reading : {A B : Type 0} → Var → (A → Reading) → (B → Reading) → A ⊎ B → Reading
either_reading v reading reading' (inl a) = (v, 1) ∷ reading a
either_reading v reading reading' (inr b) = (v, 0) ∷ reading' b

-- the group for a flag with which what is left begins, and what is left after it
abbrev pub side_from : {A B : Type 0} → (Left → Option (A × Left)) → (Left → Option (B × Left)) → Bool → Left → Option ((A ⊎ B) × Left)
side_from from from' true f = from f and_then λ a. Some (inl a.0, a.1)
side_from from from' false f = from' f and_then λ b. Some (inr b.0, b.1)

-- the flag and the group for it with which what is left begins, and what is left after them
abbrev pub either_from : {A B : Type 0} → Var → (Left → Option (A × Left)) → (Left → Option (B × Left)) → Left → Option ((A ⊎ B) × Left)
either_from v from from' f = next_flag v f and_then λ b. side_from from from' b.0 b.1

-- the row of a flag and the group for it, before a rest
abbrev pub either_row : Var → (Layout → Layout) → (Layout → Layout) → Layout → Layout
either_row v row row' rest =
    one v (guarded (record { var = v; test = IsOne }) (row whole) (guarded (record { var = v; test = IsZero }) (row' whole) rest))
