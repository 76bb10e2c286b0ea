-- Lemmas about specs/BalisesAt.antt.
use Rattle.std.proofs.Common.{◌≡◌, ℕ, ◌+◌, ◌*◌, length, Option, Some, None, refl, ◌∙◌}
use Rattle.std.specs.Int.{from_bool}
use Rattle.std.specs.Option.{is_some}
use Rattle.etcs_vars.specs.Reading.{spelled}
use Rattle.etcs_bodies.specs.Formats.{reading}
use Rattle.etcs_bodies.specs.laws.Formats.{IsFormat}
use Rattle.etcs_bodies.specs.Repeats.{bit_count}
use Rattle.etcs_bodies.specs.laws.Repeats.{bit_count_is}
use Rattle.etcs_parts.specs.BalisesAt.{BaliseAt, balise_at_value, balise_at_format}

pub balise_at_ok : IsFormat balise_at_format
balise_at_ok = (λ p. refl, λ v. refl, (((refl, refl, refl), tt), tt))

-- ---- Its bits.

count : (c : Option ℕ) (n : ℕ) → bit_count (reading balise_at_format (balise_at_value c n)) ≡ 15 + 10 * from_bool (is_some c)
count None n = refl
count (Some c) n = refl

pub balise_at_bits : (p : BaliseAt) → length (spelled (reading balise_at_format p)) ≡ 15 + 10 * from_bool (is_some p.nid_c)
balise_at_bits p = bit_count_is (reading balise_at_format p) ∙ count p.nid_c p.nid_bg
