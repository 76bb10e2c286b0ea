-- Numbers taken from the front of what is left: of a list of them, of bits that spell them, or of names with numbers
-- (JSON).
use Rattle.std.specs.Prelude.{◌≡◌, ℕ, zero, suc, Bool, true, false, ◌&&◌, List, [], ◌∷◌, ◌++◌, drop, map, bytes_eq, Option, Some, None, if◌then◌else◌}
use Rattle.std.specs.Bool.{beq}
use Rattle.etcs_bits.specs.Bits.{number_at}
use Rattle.etcs_vars.specs.declared.var.Var.{Var}
use Rattle.etcs_vars.specs.declared.var.Var.TheVariants.{NID_RADIO}
use Rattle.etcs_vars.specs.Vars.{width, admits, name}
use Rattle.etcs_vars.specs.Reading.{Sent, Reading, numbers, spelled}

-- a name, whether its number is written in hexadecimal, and the number
abbrev pub Named : Type 0
Named = (List ℕ × Bool) × ℕ

-- the number of this variable is written in hexadecimal under its name: that of NID_RADIO alone
unfoldable pub in_hexadecimal : Var → Bool
in_hexadecimal NID_RADIO = true
in_hexadecimal v = false

-- a variable and its number under the variable's name, and whether the number is in hexadecimal, as that of NID_RADIO
-- is
abbrev pub named_as : Sent → Named
named_as p = ((name p.0, in_hexadecimal p.0), p.1)

-- a name is the variable's, and its number is written in the variable's form, hexadecimal or not
abbrev pub is_of : Var → List ℕ × Bool → Bool
is_of v n = bytes_eq (name v) n.0 && beq (in_hexadecimal v) n.1

-- what is still to be taken: a list of numbers, the bits that spell them, or names with numbers
pub data Left : Type 0 where
  listed : List ℕ → Left
  in_bits : List Bool → Left
  named : List Named → Left

-- the variables of r before s: their numbers, their bits, or their names with their numbers
abbrev pub ahead : Reading → Left → Left
ahead r (listed f) = listed (numbers r ++ f)
ahead r (in_bits b) = in_bits (spelled r ++ b)
ahead r (named s) = named (map named_as r ++ s)

-- all that is still to be taken is the variables of r
abbrev pub Says : Left → Reading → Type 0
Says (listed f) r = numbers r ≡ f
Says (in_bits b) r = spelled r ≡ b
Says (named s) r = map named_as r ≡ s

-- nothing is left to be taken
abbrev pub is_spent : Left → Bool
is_spent (listed []) = true
is_spent (listed (n ∷ f)) = false
is_spent (in_bits []) = true
is_spent (in_bits (b ∷ bs)) = false
is_spent (named []) = true
is_spent (named (n ∷ s)) = false

infixr 10 ◌and_then◌
-- the second of what the first gives, if it gives something; else nothing
abbrev pub ◌and_then◌ : {A B : Type 0} → Option A → (A → Option B) → Option B
None and_then k = None
(Some x) and_then k = k x

-- the number and what is left after it, if the variable admits the number; else nothing
abbrev pub admitted_of : Var → ℕ → Left → Option (ℕ × Left)
admitted_of v n s = if admits v n then Some (n, s) else None

-- the number with which what is left begins and what is left after it, if the variable admits the number and, in a list
-- of names, it is under the variable's name; else nothing
unfoldable pub next_number : Var → Left → Option (ℕ × Left)
next_number v (listed []) = None
next_number v (listed (n ∷ f)) = admitted_of v n (listed f)
next_number v (in_bits b) = number_at 0 (width v) b and_then λ n. admitted_of v n (in_bits (drop (width v) b))
next_number v (named []) = None
next_number v (named (p ∷ s)) = if is_of v p.0 then admitted_of v p.1 (named s) else None

-- the flag of a number, 0 or 1, and what is left after it; nothing for other numbers
abbrev pub flag_of : ℕ → Left → Option (Bool × Left)
flag_of zero s = Some (false, s)
flag_of (suc zero) s = Some (true, s)
flag_of (suc (suc n)) s = None

-- the flag with which what is left begins and what is left after it; nothing if there is none or, in a list of names,
-- it isn't under the variable's name
unfoldable pub next_flag : Var → Left → Option (Bool × Left)
next_flag v (listed []) = None
next_flag v (listed (n ∷ f)) = flag_of n (listed f)
next_flag v (in_bits []) = None
next_flag v (in_bits (b ∷ bs)) = Some (b, in_bits bs)
next_flag v (named []) = None
next_flag v (named (p ∷ s)) = if is_of v p.0 then flag_of p.1 (named s) else None

-- n values, one after another, with which what is left begins, and what is left after them
unfoldable pub times_from : {V : Type 0} → (Left → Option (V × Left)) → ℕ → Left → Option (List V × Left)
times_from from zero s = Some ([], s)
times_from from (suc n) s = from s and_then λ v. times_from from n v.1 and_then λ vs. Some (v.0 ∷ vs.0, vs.1)
