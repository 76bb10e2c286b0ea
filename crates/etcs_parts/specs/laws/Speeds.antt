-- Lemmas about specs/Speeds.antt.
use Rattle.std.proofs.Common.{◌≡◌, ◌+◌, ◌*◌, ◌≤◌, length, refl, arith, Decides}
use Rattle.etcs_vars.specs.Reading.{spelled}
use Rattle.etcs_bodies.specs.Formats.{reading, Is}
use Rattle.etcs_bodies.specs.laws.Formats.{IsFormat}
use Rattle.etcs_bodies.specs.laws.Repeats.{bit_count_is}
use Rattle.etcs_bodies.specs.laws.Choices.{few_counted, bit_count-same}
use Rattle.etcs_parts.specs.Differings.{differing_format}
use Rattle.etcs_parts.specs.laws.Differings.{differing_ok, differing_bits, differing_exact}
use Rattle.etcs_parts.specs.Speeds.{Speed, speed_value, speed_format}
use Rattle.etcs_bodies.specs.laws.Equality.{number_exact, flag_exact, list_exact, fields_exact, both_exact}
use Rattle.etcs_parts.specs.contracts.speed.SpeedPartialEq.TheImpl as speed_eq

pub speed_ok : IsFormat speed_format
speed_ok = (λ p. refl, λ v. refl, (tt, (tt, ((refl, refl, refl), differing_ok))))

-- ---- Its bits.

pub few_entries : (s : Speed) → Is speed_format s → length s.differing ≤ 31
few_entries s h = few_counted (length s.differing) h.1.1.1.0

pub speed_spelled : (s : Speed) → length (spelled (reading speed_format s)) ≡ 28 + 13 * length s.differing
speed_spelled s =
    let entries = bit_count-same (reading differing_format) 13 differing_bits s.differing in
    rw (bit_count_is (reading speed_format s)) (omega arith)

-- ---- Its `==`.

pub speed_exact : (a b : Speed) → Decides (speed_eq.ghosts.eq a b) (a ≡ b)
speed_exact =
    fields_exact (λ (p : Speed). (p.d_static, (p.v_static, (p.q_front, p.differing)))) (λ n. speed_value n.0 n.1.0 n.1.1.0 n.1.1.1) (λ p. refl) (
    both_exact number_exact (both_exact number_exact (both_exact flag_exact (list_exact differing_exact))))
