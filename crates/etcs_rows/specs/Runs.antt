-- Several variables of a row at once, as they lie in the bits of a piece.
use Rattle.std.specs.Prelude.{◌≡◌, ℕ, ◌+◌, ◌≤◌, Bool, List, length, IsTrue, Some}
use Rattle.etcs_bits.specs.Bits.{part, num}
use Rattle.etcs_vars.specs.declared.var.Var.{Var}
use Rattle.etcs_vars.specs.Vars.{width, admits}
use Rattle.etcs_vars.specs.Reading.{Reading, spelled, numbers}
use Rattle.etcs_tables.specs.Layouts.{Layout}
use Rattle.etcs_rows.specs.Places.{first_variable}
use Rattle.etcs_rows.specs.Walks.{Follows}

-- the bits xs from at on are the number n of the variable x, which comes next in the row: it admits n and has room for
-- x
pub record NextIn (row : Layout) (len : ℕ) (xs : List Bool) (at : ℕ) (x : Var) (n : ℕ) : Type 0 where
  pub next : first_variable row ≡ Some x
  pub room : width x ≤ len
  pub inside : at + width x ≤ length xs
  pub admitted : IsTrue (admits x n)
  pub bits : num (width x) n ≡ part at (width x) xs

-- count bits of xs from at on spell the row's next variables with the numbers f: left is what is left of it then, in
-- this many bits
pub record RunsTo (row : Layout) (len : ℕ) (xs : List Bool) (at count : ℕ) (f : List ℕ) (left : Layout) (bits : ℕ) : Type 0 where
  pub inside : at + count ≤ length xs
  pub run : Reading
  pub numbers_are : numbers run ≡ f
  pub follows : Follows row len run left bits
  pub spelling : spelled run ≡ part at count xs
