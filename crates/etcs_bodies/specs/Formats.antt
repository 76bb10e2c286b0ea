-- Formats: a run of variables of a row as a value, given once, from which all else about such values is read off (rows
-- of SUBSET-026, 7.4).
use Rattle.std.proofs.Common.{◌≡◌, ℕ, ◌+◌, ◌-◌, ◌*◌, ◌^◌, ◌&&◌, Bool, true, false, List, [], ◌∷◌, length, Option, None, nat_eq, nat_le, ◌⊎◌, inl, inr}
use Rattle.std.specs.Prelude.{All, if◌then◌else◌}
use Rattle.std.specs.Bool.{beq}
use Rattle.std.specs.Option.{option_eq, is_some}
use Rattle.std.specs.Cmp.Lexicographic.{pointwise}
use Rattle.etcs_bits.specs.Bits.{bit}
use Rattle.etcs_vars.specs.declared.var.Var.{Var}
use Rattle.etcs_vars.specs.declared.var.Var.TheVariants.{N_ITER}
use Rattle.etcs_vars.specs.declared.fault.BuildFault.{BuildFault}
use Rattle.etcs_vars.specs.Vars.{width}
use Rattle.etcs_vars.specs.Faults.{◌or_else◌, number_fault}
use Rattle.etcs_vars.specs.Reading.{Reading}
use Rattle.etcs_tables.specs.declared.item.Test.{Test}
use Rattle.etcs_tables.specs.declared.item.Test.TheVariants.{IsOne}
use Rattle.etcs_tables.specs.Layouts.{Layout, whole, one, counted, passes}
use Rattle.etcs_bodies.specs.Faults.{count_fault}
use Rattle.etcs_bodies.specs.Taking.{Left, next_number, next_flag}
use Rattle.etcs_bodies.specs.Codecs.{both_reading, both_from, form_from, group_row, group_reading, group_from, IsOptional, optional_reading, optional_from, list_reading, list_from}
use Rattle.etcs_bodies.specs.Choices.{choice_row, choice_from, IsEither, either_row, either_reading, either_from}
use Rattle.etcs_bodies.specs.Guards.{guard_fault, group_fault}

-- a run of variables as a value of V: the number of a variable, a flag, one after another, a group after a flag or
-- after a guard, one of two groups, values after their count, a value by itself inside, or a value under another form
pub data Format : Type 0 → Type 1 where
  -- the number of a variable
  number : Var → Format ℕ
  -- a number of the first variable, sent as the second, which admits the same
  sent_as : Var → Var → Format ℕ
  -- a variable of one bit
  flag : Var → Format Bool
  -- one after another
  both : {V W : Type 0} → Format V → Format W → Format (V × W)
  -- a flag, and after it a group, which is there if the flag is 1
  optional : {V : Type 0} → Var → Format V → Format (Option V)
  -- a number, and after it a group, which is there if the number passes a test
  guarded : {V : Type 0} → Var → Test → Format V → Format (ℕ × Option V)
  -- after a flag, the first group if it is 1, the second if it is 0
  either : {V W : Type 0} → Var → Format V → Format W → Format (V ⊎ W)
  -- after a number, the one variable if the first test holds of it, the other if the second does
  choice : Var → Test → Test → (Bool → Var) → Format (ℕ × ℕ)
  -- a value by itself inside
  part : {V : Type 0} → Format V → Format V
  -- such values after their count
  listed : {V : Type 0} → Var → Format V → Format (List V)
  -- the same under another form
  named : {V W : Type 0} → (V → W) → (W → V) → Format V → Format W

infixr 20 ◌⊗◌
-- one format after another
abbrev pub ◌⊗◌ : {V W : Type 0} → Format V → Format W → Format (V × W)
f ⊗ g = both f g

-- a first entry, and further ones after the count N_ITER
abbrev pub entries : {V : Type 0} → Format V → Format (V × List V)
entries f = part f ⊗ listed N_ITER f

-- ---- Their values, and how they are read.

-- v is a value of the format
abbrev pub Is : {V : Type 0} → Format V → V → Type 0
Is (number v) n = number_fault v n ≡ None
Is (sent_as v w) n = number_fault v n ≡ None
Is (flag v) b = Unit {0}
Is (both f g) p = Is f p.0 × Is g p.1
Is (optional v f) o = IsOptional (Is f) o
Is (guarded v test f) p = (number_fault v p.0 ≡ None) × (guard_fault v (passes test p.0) (is_some p.1) ≡ None) × IsOptional (Is f) p.1
Is (either v f g) p = IsEither (Is f) (Is g) p
Is (choice v test other of) p = (number_fault v p.0 ≡ None) × (number_fault (of (passes test p.0)) p.1 ≡ None)
Is (part f) w = Is f w
Is (listed v f) l = (count_fault v (length l) ≡ None) × All (Is f) l
Is (named to back f) w = Is f (back w)

-- the variables of a value of the format, in the order of sending
abbrev pub reading : {V : Type 0} → Format V → V → Reading
reading (number v) n = (v, n) ∷ []
reading (sent_as v w) n = (w, n) ∷ []
reading (flag v) b = (v, bit b) ∷ []
reading (both f g) p = both_reading (reading f) (reading g) p
reading (optional v f) o = optional_reading v (reading f) o
reading (guarded v test f) p = group_reading v (reading f) p
reading (either v f g) p = either_reading v (reading f) (reading g) p
reading (choice v test other of) p = (v, p.0) ∷ (of (passes test p.0), p.1) ∷ []
reading (part f) w = reading f w
reading (listed v f) l = list_reading v (reading f) l
reading (named to back f) w = reading f (back w)

-- the row of a format, before a rest
abbrev pub row : {V : Type 0} → Format V → Layout → Layout
row (number v) rest = one v rest
row (sent_as v w) rest = one w rest
row (flag v) rest = one v rest
row (both f g) rest = row f (row g rest)
row (optional v f) rest = group_row v IsOne (row f) rest
row (guarded v test f) rest = group_row v test (row f) rest
row (either v f g) rest = either_row v (row f) (row g) rest
row (choice v test other of) rest = choice_row v test other (λ b. one (of b)) rest
row (part f) rest = row f rest
row (listed v f) rest = one v (counted (row f whole) rest)
row (named to back f) rest = row f rest

-- the value of the format with which what is left begins, and what is left after it
abbrev pub from : {V : Type 0} → Format V → Left → Option (V × Left)
from (number v) s = next_number v s
from (sent_as v w) s = next_number w s
from (flag v) s = next_flag v s
from (both f g) s = both_from (from f) (from g) s
from (optional v f) s = optional_from v (from f) s
from (guarded v test f) s = group_from v test (from f) s
from (either v f g) s = either_from v (from f) (from g) s
from (choice v test other of) s = choice_from v test (λ b. next_number (of b)) s
from (part f) s = from f s
from (listed v f) s = list_from v (from f) s
from (named to back f) s = form_from to (from f) s

-- ---- The faults of what is no value.

-- the fault of the one of two groups that is there
abbrev pub either_fault : {V W : Type 0} → (V → Option BuildFault) → (W → Option BuildFault) → V ⊎ W → Option BuildFault
either_fault fault fault' (inl a) = fault a
either_fault fault fault' (inr b) = fault' b

-- the first refusal in the order of sending; what is a part is a value already, and isn't looked at
abbrev pub fault : {V : Type 0} → Format V → V → Option BuildFault
fault (number v) n = number_fault v n
fault (sent_as v w) n = number_fault v n
fault (flag v) b = None
fault (both f g) p = fault f p.0 or_else fault g p.1
fault (optional v f) o = group_fault (fault f) o
fault (guarded v test f) p = number_fault v p.0 or_else guard_fault v (passes test p.0) (is_some p.1) or_else group_fault (fault f) p.1
fault (either v f g) p = either_fault (fault f) (fault g) p
fault (choice v test other of) p = number_fault v p.0 or_else number_fault (of (passes test p.0)) p.1
fault (part f) w = None
fault (listed v f) l = count_fault v (length l)
fault (named to back f) w = fault f (back w)

-- ---- How long they are, and when two are equal.

-- the larger of two numbers
abbrev pub larger : ℕ → ℕ → ℕ
larger m n = if nat_le m n then n else m

-- the most bits that a value of the format takes
abbrev pub most : {V : Type 0} → Format V → ℕ
most (number v) = width v
most (sent_as v w) = width w
most (flag v) = width v
most (both f g) = most f + most g
most (optional v f) = width v + most f
most (guarded v test f) = width v + most f
most (either v f g) = width v + larger (most f) (most g)
most (choice v test other of) = width v + larger (width (of true)) (width (of false))
most (part f) = most f
most (listed v f) = width v + (2 ^ width v - 1) * most f
most (named to back f) = most f

-- both are the same one of two groups, and equal
abbrev pub either_equal : {V W : Type 0} → (V → V → Bool) → (W → W → Bool) → V ⊎ W → V ⊎ W → Bool
either_equal e e' (inl a) (inl b) = e a b
either_equal e e' (inl a) (inr b) = false
either_equal e e' (inr a) (inl b) = false
either_equal e e' (inr a) (inr b) = e' a b

-- `==` of two values of the format, number by number and part by part
abbrev pub equal : {V : Type 0} → Format V → V → V → Bool
equal (number v) = nat_eq
equal (sent_as v w) = nat_eq
equal (flag v) = beq
equal (both f g) = λ a b. equal f a.0 b.0 && equal g a.1 b.1
equal (optional v f) = option_eq (equal f)
equal (guarded v test f) = λ a b. nat_eq a.0 b.0 && option_eq (equal f) a.1 b.1
equal (either v f g) = either_equal (equal f) (equal g)
equal (choice v test other of) = λ a b. nat_eq a.0 b.0 && nat_eq a.1 b.1
equal (part f) = equal f
equal (listed v f) = pointwise (equal f)
equal (named to back f) = λ a b. equal f (back a) (back b)
