-- Lemmas about specs/Sections.antt.
use Rattle.std.proofs.Common.{◌≡◌, ℕ, ◌+◌, ◌*◌, length, Option, Some, None, refl, sym, ◌∙◌}
use Rattle.std.specs.Int.{from_bool}
use Rattle.std.specs.Option.{is_some}
use Rattle.etcs_vars.specs.Reading.{spelled}
use Rattle.etcs_bodies.specs.Formats.{reading}
use Rattle.etcs_bodies.specs.laws.Formats.{IsFormat}
use Rattle.etcs_bodies.specs.Repeats.{bit_count}
use Rattle.etcs_bodies.specs.laws.Repeats.{bit_count_is}
use Rattle.etcs_parts.specs.Sections.{Section, section_value, timer_format, section_format, end_format}

pub timer_ok : IsFormat timer_format
timer_ok = ((refl, refl, refl), (tt, tt))

pub section_ok : IsFormat section_format
section_ok = (λ p. refl, λ v. refl, (tt, timer_ok))

pub end_ok : IsFormat end_format
end_ok = (λ p. refl, λ v. refl, (λ n. refl, timer_ok))

-- ---- Its bits, the same for both kinds.

count : (n : ℕ) (t : Option (ℕ × ℕ)) → bit_count (reading section_format (section_value n t)) ≡ 16 + 25 * from_bool (is_some t)
count n None = refl
count n (Some t) = refl

pub section_bits : (p : Section) → length (spelled (reading section_format p)) ≡ 16 + 25 * from_bool (is_some p.timer)
section_bits p = bit_count_is (reading section_format p) ∙ count p.length p.timer

same_count : (p : Section) → bit_count (reading end_format p) ≡ bit_count (reading section_format p)
same_count p = refl

pub end_bits : (p : Section) → length (spelled (reading end_format p)) ≡ length (spelled (reading section_format p))
end_bits p = bit_count_is (reading end_format p) ∙ same_count p ∙ sym (bit_count_is (reading section_format p))
