-- Lemmas about specs/Levels.antt and specs/LevelAcks.antt.
use Rattle.std.proofs.Common.{◌≡◌, ℕ, ◌+◌, ◌*◌, length, Option, Some, None, refl, ◌∙◌, Decides}
use Rattle.std.specs.Int.{from_bool}
use Rattle.std.specs.Option.{is_some}
use Rattle.etcs_vars.specs.Reading.{spelled}
use Rattle.etcs_bodies.specs.Formats.{reading}
use Rattle.etcs_bodies.specs.laws.Formats.{IsFormat, exact_of}
use Rattle.etcs_bodies.specs.Repeats.{bit_count}
use Rattle.etcs_bodies.specs.laws.Repeats.{bit_count_is}
use Rattle.etcs_bodies.specs.laws.Equality.{number_exact, fields_exact, both_exact}
use Rattle.etcs_parts.specs.Levels.{Level, level_value, level_format}
use Rattle.etcs_parts.specs.LevelAcks.{LevelAck, level_ack_format}
use Rattle.etcs_parts.specs.contracts.level_ack.LevelAckPartialEq.TheImpl as level_ack_eq

pub level_ok : IsFormat level_format
level_ok = (λ p. refl, λ v. refl, tt)

pub level_ack_ok : IsFormat level_ack_format
level_ack_ok = (λ p. refl, λ v. refl, (level_ok, tt))

-- ---- Its bits.

count : (m : ℕ) (o : Option ℕ) → bit_count (reading level_format (level_value m o)) ≡ 3 + 8 * from_bool (is_some o)
count m None = refl
count m (Some n) = refl

pub level_bits : (p : Level) → length (spelled (reading level_format p)) ≡ 3 + 8 * from_bool (is_some p.nid_ntc)
level_bits p = bit_count_is (reading level_format p) ∙ count p.m_leveltr p.nid_ntc

-- ---- `==` asks for the length first.

pub level_ack_exact : (a b : LevelAck) → Decides (level_ack_eq.ghosts.eq a b) (a ≡ b)
level_ack_exact = fields_exact (λ (p : LevelAck). (p.l_ackleveltr, p.level)) (λ n. record { level = n.1; l_ackleveltr = n.0 }) (λ p. refl) (both_exact number_exact (exact_of level_format level_ok))
