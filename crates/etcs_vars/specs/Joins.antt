-- The first variables of a reading, joined into one number.
use Rattle.std.specs.Prelude.{◌≡◌, ℕ, ◌≤◌, ◌<◌, ◌^◌, length, take}
use Rattle.etcs_bits.specs.Bits.{num}
use Rattle.etcs_vars.specs.Reading.{Reading, spelled}

-- the first count variables of a reading, at least one, take width bits, at most 64, and the number spells them
pub record Joins (sent : Reading) (count width number : ℕ) : Type 0 where
  pub some : 0 < count
  pub most : count ≤ length sent
  pub width_is : width ≡ length (spelled (take count sent))
  pub word : width ≤ 64
  pub bits_are : num width number ≡ spelled (take count sent)
  pub fits : number < 2 ^ width
