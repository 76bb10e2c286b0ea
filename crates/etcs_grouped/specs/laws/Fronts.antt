-- Packets that are some variables, and then a part.
use Rattle.std.proofs.Common.{◌≡◌, ℕ, ◌+◌, length, ◌∙◌, arith}
use Rattle.etcs_vars.specs.Reading.{Reading, spelled}
use Rattle.etcs_bodies.specs.Repeats.{bit_count}
use Rattle.etcs_bodies.specs.laws.Repeats.{bit_count_is}

-- the bits of a whole with this many before its part
pub after_front : (whole part : Reading) (n a : ℕ) → bit_count whole ≡ n + bit_count part → a ≡ length (spelled part) → n + a ≡ length (spelled whole)
after_front whole part n a is h = rw (bit_count_is whole, is) (omega (arith, h ∙ bit_count_is part))
