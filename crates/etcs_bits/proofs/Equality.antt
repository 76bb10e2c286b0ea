-- What `==` of two lists of bits says.
use Rattle.std.specs.Prelude.{◌≡◌, Bool, List, refl}
use Rattle.std.specs.Bool.{Decides}
use Rattle.std.specs.Cmp.{booleans_Decides}
use Rattle.std.specs.Cmp.Lexicographic.{pointwise}
use Rattle.std.proofs.Math.Bool.{beq}
use Rattle.std.proofs.lemmas.Slice.Eq.{slice_eq-Decides}

-- it is true exactly where they are one list
pub same_bits : (xs ys : List Bool) → Decides (pointwise beq xs ys) (xs ≡ ys)
same_bits xs ys = slice_eq-Decides booleans_Decides xs ys (pointwise beq xs ys) refl
