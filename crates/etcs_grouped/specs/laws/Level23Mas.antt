-- Lemmas about specs/Level23Mas.antt.
use Rattle.std.proofs.Common.{◌≡◌, ℕ, ◌+◌, length, refl, arith, Decides}
use Rattle.etcs_vars.specs.Reading.{spelled}
use Rattle.etcs_tables.specs.declared.row.Way.TheVariants.{ToTrain}
use Rattle.etcs_bodies.specs.Packets.{packet_from}
use Rattle.etcs_bodies.specs.PacketCodes.{PacketCodes}
use Rattle.etcs_bodies.specs.PacketFormats.{IsPacketOf, packet_reading, packet_left}
use Rattle.etcs_bodies.specs.Formats.{reading}
use Rattle.etcs_bodies.specs.laws.PacketFormats.{IsPacketFormat, codes_of_packet}
use Rattle.etcs_bodies.specs.laws.Equality.{number_exact, both_exact, fields_exact}
use Rattle.etcs_parts.specs.Authorities.{authority_format}
use Rattle.etcs_parts.specs.laws.Authorities.{authority_ok, authority_exact}
use Rattle.etcs_grouped.specs.laws.Fronts.{after_front}
use Rattle.etcs_grouped.specs.Level23Mas.{Level23Ma, level23_ma_value, level23_ma_packet}
use Rattle.etcs_grouped.specs.contracts.level23_ma.Level23MaPartialEq.TheImpl as level23_ma_eq

pub level23_ma_ok : IsPacketFormat level23_ma_packet
level23_ma_ok = record { again = λ p. refl; dir_is = λ dir b. refl; rest_is = λ dir b. refl; body = (tt, (tt, (tt, authority_ok))); short = refl }

pub level23_ma_codes : PacketCodes ToTrain 15 (λ (p : Level23Ma). p.dir) (IsPacketOf level23_ma_packet) (packet_reading level23_ma_packet) (packet_from (packet_left level23_ma_packet))
level23_ma_codes = codes_of_packet level23_ma_packet level23_ma_ok 15 refl

-- ---- Its bits.

pub level23_ma_length : (p : Level23Ma) (a : ℕ) → a ≡ length (spelled (reading authority_format p.authority)) → 19 + a ≡ length (spelled (packet_reading level23_ma_packet p))
level23_ma_length p a h = after_front (packet_reading level23_ma_packet p) (reading authority_format p.authority) 19 a (omega arith) h

-- ---- Its `==`.

pub level23_ma_exact : (a b : Level23Ma) → Decides (level23_ma_eq.ghosts.eq a b) (a ≡ b)
level23_ma_exact =
    fields_exact (λ (p : Level23Ma). (p.dir, (p.q_scale, (p.v_loa, (p.t_loa, p.authority))))) (λ n. level23_ma_value n.0 n.1.0 n.1.1.0 n.1.1.1.0 n.1.1.1.1) (λ p. refl) (
    both_exact number_exact (both_exact number_exact (both_exact number_exact (both_exact number_exact authority_exact))))
