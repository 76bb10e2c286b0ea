-- Lemmas about specs/ModeSections.antt.
use Rattle.std.proofs.Common.{◌≡◌, length, refl, Decides}
use Rattle.etcs_vars.specs.Reading.{spelled}
use Rattle.etcs_bodies.specs.Formats.{reading}
use Rattle.etcs_bodies.specs.laws.Repeats.{bit_count_is}
use Rattle.etcs_bodies.specs.laws.Formats.{IsFormat, exact_of}
use Rattle.etcs_parts.specs.ModeSections.{ModeSection, mode_section_format}
use Rattle.etcs_parts.specs.contracts.mode_section.ModeSectionPartialEq.TheImpl as mode_section_eq

pub mode_section_ok : IsFormat mode_section_format
mode_section_ok = (λ p. refl, λ v. refl, (tt, (tt, (tt, (tt, (tt, (refl, refl, refl)))))))

pub mode_section_bits : (p : ModeSection) → 55 ≡ length (spelled (reading mode_section_format p))
mode_section_bits p = rw (bit_count_is (reading mode_section_format p)) refl

pub mode_section_exact : (a b : ModeSection) → Decides (mode_section_eq.ghosts.eq a b) (a ≡ b)
mode_section_exact = exact_of mode_section_format mode_section_ok
