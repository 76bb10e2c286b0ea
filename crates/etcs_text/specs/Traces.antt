-- What a reader has taken of the bits that were fed.
use Rattle.std.specs.Prelude.{◌≡◌, ◌+◌, Bool, List, length}
use Rattle.etcs_vars.specs.Reading.{Reading, spelled}
use Rattle.etcs_reader.specs.Rests.{Goes}
use Rattle.etcs_reader.specs.Feeders.{FeederValue}
use Rattle.etcs_text.specs.declared.account.End.{End}
use Rattle.etcs_text.specs.Accounts.{Accounts}

-- a reader that began at start has taken whole variables and some bits after them; with these variables the bits xs are
-- accounted for with this end
pub record Taken (R : Type 0) (left : R → Reading → Type 0) (follows : R → Reading → R → Type 0) (start : R) (xs : List Bool) (e : End) (v : FeederValue R) : Type 0 where
  pub whole : Reading
  pub along : follows start whole v.rest
  pub goes : Goes (left v.rest)
  pub long : length (spelled whole) + length v.part ≡ v.count
  pub accounts : Accounts (left start) whole e xs
