-- Lemmas about specs/Slopes.antt.
use Rattle.std.proofs.Common.{◌≡◌, length, refl, Decides}
use Rattle.etcs_vars.specs.Reading.{spelled}
use Rattle.etcs_bodies.specs.Formats.{reading}
use Rattle.etcs_bodies.specs.laws.Repeats.{bit_count_is}
use Rattle.etcs_bodies.specs.laws.Formats.{IsFormat, exact_of}
use Rattle.etcs_parts.specs.Slopes.{Slope, slope_format}
use Rattle.etcs_parts.specs.contracts.slope.SlopePartialEq.TheImpl as slope_eq

pub slope_ok : IsFormat slope_format
slope_ok = (λ p. refl, λ v. refl, (tt, ((refl, refl, refl), tt)))

pub slope_bits : (p : Slope) → 24 ≡ length (spelled (reading slope_format p))
slope_bits p = rw (bit_count_is (reading slope_format p)) refl

pub slope_exact : (a b : Slope) → Decides (slope_eq.ghosts.eq a b) (a ≡ b)
slope_exact = exact_of slope_format slope_ok
