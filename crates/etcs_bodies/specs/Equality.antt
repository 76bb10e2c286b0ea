-- `==` is equality of values: of numbers, flags, options, lists, pairs, and of what has such fields.
use Rattle.std.proofs.Common.{◌≡◌, Bool, Decides}

-- the test E is true exactly of equal values
abbrev pub IsExact : {V : Type 0} → (V → V → Bool) → Type 0
IsExact {V = V} E = (a b : V) → Decides (E a b) (a ≡ b)
