-- What loops over the numbers of a row keep, and the law of its spellings (rows of SUBSET-026, 7.4).
use Rattle.std.specs.Prelude.{◌≡◌, ℕ, ◌+◌, ◌≤◌, ◌↔◌, Bool, List, [], ◌++◌, length, IsTrue, None}
use Rattle.etcs_bits.specs.Bits.{replaced}
use Rattle.etcs_vars.specs.Reading.{Reading, spelled, numbers}
use Rattle.etcs_tables.specs.Layouts.{Layout, Reads, Spells, AdmitsFields, ROW_LIMIT, looks}

-- what is left of a row spells the numbers f, in at most 8,168 bits with those taken before
abbrev pub AdmitsRest : Layout → List ℕ → ℕ → Type 0
AdmitsRest left f taken = (r : Reading) × Reads left [] r × (numbers r ≡ f) × (taken + length (spelled r) ≤ ROW_LIMIT)

-- so far nothing is refused: what is left admits the numbers to come exactly if the row admits them all
pub record Admits (row left : Layout) (fields to_come : List ℕ) (taken : ℕ) : Type 0 where
  pub sound : IsTrue (looks None left)
  pub small : taken ≤ ROW_LIMIT
  pub same : AdmitsRest left to_come taken ↔ AdmitsFields row fields

-- all is a reading of the row and its numbers are fields; rest is a reading of what is left, its numbers are those to
-- come, and its bits complete the bits done
pub record Writes (row left : Layout) (fields to_come : List ℕ) (done : List Bool) : Type 0 where
  pub all : Reading
  pub rest : Reading
  pub sound : IsTrue (looks None left)
  pub all_reads : Reads row [] all
  pub all_numbers : numbers all ≡ fields
  pub rest_reads : Reads left [] rest
  pub rest_numbers : numbers rest ≡ to_come
  pub completes : done ++ spelled rest ≡ spelled all

-- the bits of the numbers so far follow the bits before
pub record Appends (row left : Layout) (fields to_come : List ℕ) (before now : List Bool) : Type 0 where
  pub done : List Bool
  pub writes : Writes row left fields to_come done
  pub stands : now ≡ before ++ done

-- the bits of the numbers so far are those from bit start up to bit at, and all others are as before
pub record Puts (row left : Layout) (fields to_come : List ℕ) (start : ℕ) (before : List Bool) (at : ℕ) (now : List Bool) : Type 0 where
  pub done : List Bool
  pub writes : Writes row left fields to_come done
  pub stands : now ≡ replaced start done before
  pub place : at ≡ start + length done

-- numbers and bits of a row determine each other, and no spelling begins another
abbrev pub OneSpelling : Type 0
OneSpelling = ((row : Layout) (f f' : List ℕ) (b c : List Bool) → Spells row [] f b → Spells row [] f' (b ++ c) → (f ≡ f') × (c ≡ [])) × ((row : Layout) (f : List ℕ) (b b' : List Bool) → Spells row [] f b → Spells row [] f b' → b ≡ b')
