-- Lemmas about specs/Conditions.antt.
use Rattle.std.proofs.Common.{◌≡◌, length, refl}
use Rattle.etcs_vars.specs.Reading.{spelled}
use Rattle.etcs_bodies.specs.Formats.{reading}
use Rattle.etcs_bodies.specs.laws.Repeats.{bit_count_is}
use Rattle.etcs_bodies.specs.laws.Formats.{IsFormat}
use Rattle.etcs_parts.specs.Conditions.{Condition, condition_format}

pub condition_ok : IsFormat condition_format
condition_ok = (λ p. refl, λ v. refl, (tt, (tt, tt)))

pub condition_bits : (p : Condition) → 34 ≡ length (spelled (reading condition_format p))
condition_bits p = rw (bit_count_is (reading condition_format p)) refl
