-- Entries of a static speed profile, as they lie in the bits of a piece (packet 27; SUBSET-026, 7.4.2).
use Rattle.std.specs.Prelude.{◌≡◌, ℕ, zero, suc, ◌+◌, ◌≤◌, Bool, List, length}
use Rattle.etcs_bits.specs.Bits.{part}
use Rattle.etcs_vars.specs.declared.var.Var.{Var}
use Rattle.etcs_vars.specs.declared.var.Var.TheVariants.{D_STATIC, V_STATIC, Q_FRONT, N_ITER, Q_DIFF, NC_CDDIFF, NC_DIFF, V_DIFF}
use Rattle.etcs_vars.specs.Reading.{Reading, spelled, numbers}
use Rattle.etcs_tables.specs.Layouts.{Layout, whole, one, guarded, counted}
use Rattle.etcs_tables.specs.Rows.{is_zero, is_one_or_two}
use Rattle.etcs_rows.specs.Places.{Open, onto}
use Rattle.etcs_rows.specs.Walks.{ReadTo}

-- the row of a speed for some trains
abbrev pub differing : Layout
differing = one Q_DIFF (guarded (is_zero Q_DIFF) (one NC_CDDIFF whole) (guarded (is_one_or_two Q_DIFF) (one NC_DIFF whole) (one V_DIFF whole)))

-- the variable of the category after Q_DIFF
abbrev pub category_of : ℕ → Var
category_of zero = NC_CDDIFF
category_of (suc q) = NC_DIFF

-- the row of a speed with those for some trains
abbrev pub speed : Layout
speed = one D_STATIC (one V_STATIC (one Q_FRONT (one N_ITER (counted differing whole))))

-- count bits of xs from at on spell, with the numbers f, the next variables of a row of len bits: left is what is left
-- of it then, in this many bits
pub record TakenTo (row : Layout) (len : ℕ) (xs : List Bool) (at count : ℕ) (f : List ℕ) (left : Layout) (bits : ℕ) : Type 0 where
  pub inside : at + count ≤ length xs
  pub run : Reading
  pub numbers_are : numbers run ≡ f
  pub read : ReadTo row len run left bits
  pub spelling : spelled run ≡ part at count xs

-- the same of all of a row after a variable whose number is n, with whatever is left then
abbrev pub ListIn : Layout → ℕ → List Bool → ℕ → ℕ → List ℕ → Type 0
ListIn row n xs at count f = (tail : Layout) (more : ℕ) → Open tail → TakenTo (onto n row tail) (count + more) xs at count f tail more
