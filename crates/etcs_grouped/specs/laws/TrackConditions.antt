-- Lemmas about specs/TrackConditions.antt.
use Rattle.std.proofs.Common.{◌≡◌, ℕ, ◌+◌, ◌*◌, ◌≤◌, List, length, inl, inr, refl, arith}
use Rattle.etcs_vars.specs.Reading.{spelled}
use Rattle.etcs_tables.specs.declared.row.Way.TheVariants.{ToTrain}
use Rattle.etcs_bodies.specs.Packets.{packet_from}
use Rattle.etcs_bodies.specs.PacketCodes.{PacketCodes}
use Rattle.etcs_bodies.specs.Equality.{IsExact}
use Rattle.etcs_bodies.specs.Formats.{Is, reading}
use Rattle.etcs_bodies.specs.PacketFormats.{IsPacketOf, packet_reading, packet_left, packet_equal}
use Rattle.etcs_bodies.specs.laws.Choices.{few_counted, bit_count-same}
use Rattle.etcs_bodies.specs.laws.Repeats.{bit_count_is}
use Rattle.etcs_bodies.specs.laws.PacketFormats.{IsPacketFormat, codes_of_packet, exact_packet}
use Rattle.etcs_parts.specs.declared.condition.Condition.{Condition}
use Rattle.etcs_parts.specs.Conditions.{condition_format}
use Rattle.etcs_parts.specs.laws.Conditions.{condition_ok}
use Rattle.etcs_grouped.specs.laws.Fronts.{after_front}
use Rattle.etcs_grouped.specs.TrackConditions.{state_format, TrackConditionValue, track_condition_packet}

pub track_condition_ok : IsPacketFormat track_condition_packet
track_condition_ok = record { again = λ p. refl; dir_is = λ dir b. refl; rest_is = λ dir b. refl; body = (tt, ((refl, refl, refl), tt, (condition_ok, condition_ok))); short = refl }

pub track_condition_codes : PacketCodes ToTrain 68 (λ (p : TrackConditionValue). p.dir) (IsPacketOf track_condition_packet) (packet_reading track_condition_packet) (packet_from (packet_left track_condition_packet))
track_condition_codes = codes_of_packet track_condition_packet track_condition_ok 68 refl

-- ---- Its bits.

pub initial_bits : (n : ℕ) → 16 ≡ length (spelled (reading state_format (inl n)))
initial_bits n = rw (bit_count_is (reading state_format (inl n))) refl

pub condition_bits : (first : Condition) (further : List Condition) → 40 + 34 * length further ≡ length (spelled (reading state_format (inr (first, further))))
condition_bits first further =
    let conditions = bit_count-same (reading condition_format) 34 (λ c. refl) further in
    rw (bit_count_is (reading state_format (inr (first, further)))) (omega arith)

pub few_conditions : (first : Condition) (further : List Condition) → Is state_format (inr (first, further)) → length further ≤ 31
few_conditions first further h = few_counted (length further) h.1.0

pub track_condition_length : (p : TrackConditionValue) (a : ℕ) → a ≡ length (spelled (reading state_format p.state)) → 2 + a ≡ length (spelled (packet_reading track_condition_packet p))
track_condition_length p a h = after_front (packet_reading track_condition_packet p) (reading state_format p.state) 2 a (omega arith) h

-- ---- Its `==`.

pub track_condition_exact : IsExact (packet_equal track_condition_packet)
track_condition_exact = exact_packet track_condition_packet track_condition_ok
