-- Lemmas about specs/Displays.antt.
use Rattle.std.proofs.Common.{◌≡◌, ℕ, ◌+◌, ◌*◌, ◌≤◌, length, Option, Some, None, refl, ◌∙◌, arith}
use Rattle.std.specs.Int.{from_bool}
use Rattle.std.specs.Option.{is_some}
use Rattle.etcs_vars.specs.Reading.{spelled}
use Rattle.etcs_bodies.specs.Formats.{reading}
use Rattle.etcs_bodies.specs.laws.Formats.{IsFormat}
use Rattle.etcs_bodies.specs.Repeats.{bit_count}
use Rattle.etcs_bodies.specs.laws.Repeats.{bit_count_is}
use Rattle.etcs_parts.specs.laws.Flags.{at_most_one}
use Rattle.etcs_parts.specs.Displays.{Shown, shown_value, shown_format}

pub shown_ok : IsFormat shown_format
shown_ok = (λ p. refl, λ v. refl, (tt, tt))

-- ---- Its bits.

count : (m l : ℕ) (o : Option ℕ) → bit_count (reading shown_format (shown_value m l o)) ≡ 7 + 8 * from_bool (is_some o)
count m l None = refl
count m l (Some n) = refl

pub shown_bits : (s : Shown) → length (spelled (reading shown_format s)) ≡ 7 + 8 * from_bool (is_some s.nid_ntc)
shown_bits s = bit_count_is (reading shown_format s) ∙ count s.m_modetextdisplay s.m_leveltextdisplay s.nid_ntc

pub shown_small : (s : Shown) → length (spelled (reading shown_format s)) ≤ 15
shown_small s = omega (arith, shown_bits s, at_most_one (is_some s.nid_ntc))
