-- Lemmas about specs/Level1Mas.antt.
use Rattle.std.proofs.Common.{◌≡◌, ℕ, ◌+◌, length, refl, arith, Decides}
use Rattle.etcs_vars.specs.Reading.{spelled}
use Rattle.etcs_tables.specs.declared.row.Way.TheVariants.{ToTrain}
use Rattle.etcs_bodies.specs.Packets.{packet_from}
use Rattle.etcs_bodies.specs.PacketCodes.{PacketCodes}
use Rattle.etcs_bodies.specs.PacketFormats.{IsPacketOf, packet_reading, packet_left}
use Rattle.etcs_bodies.specs.Formats.{reading}
use Rattle.etcs_bodies.specs.laws.PacketFormats.{IsPacketFormat, codes_of_packet}
use Rattle.etcs_bodies.specs.laws.Equality.{number_exact, both_exact, fields_exact}
use Rattle.etcs_parts.specs.Authorities.{authority_format}
use Rattle.etcs_parts.specs.laws.Authorities.{authority_ok, authority_exact}
use Rattle.etcs_grouped.specs.laws.Fronts.{after_front}
use Rattle.etcs_grouped.specs.Level1Mas.{Level1Ma, level1_ma_value, level1_ma_packet}
use Rattle.etcs_grouped.specs.contracts.level1_ma.Level1MaPartialEq.TheImpl as level1_ma_eq

pub level1_ma_ok : IsPacketFormat level1_ma_packet
level1_ma_ok = record { again = λ p. refl; dir_is = λ dir b. refl; rest_is = λ dir b. refl; body = (tt, (tt, (tt, (tt, authority_ok)))); short = refl }

pub level1_ma_codes : PacketCodes ToTrain 12 (λ (p : Level1Ma). p.dir) (IsPacketOf level1_ma_packet) (packet_reading level1_ma_packet) (packet_from (packet_left level1_ma_packet))
level1_ma_codes = codes_of_packet level1_ma_packet level1_ma_ok 12 refl

-- ---- Its bits.

pub level1_ma_length : (p : Level1Ma) (a : ℕ) → a ≡ length (spelled (reading authority_format p.authority)) → 26 + a ≡ length (spelled (packet_reading level1_ma_packet p))
level1_ma_length p a h = after_front (packet_reading level1_ma_packet p) (reading authority_format p.authority) 26 a (omega arith) h

-- ---- Its `==`.

pub level1_ma_exact : (a b : Level1Ma) → Decides (level1_ma_eq.ghosts.eq a b) (a ≡ b)
level1_ma_exact =
    fields_exact (λ (p : Level1Ma). (p.dir, (p.q_scale, (p.v_main, (p.v_loa, (p.t_loa, p.authority)))))) (λ n. level1_ma_value n.0 n.1.0 n.1.1.0 n.1.1.1.0 n.1.1.1.1.0 n.1.1.1.1.1) (λ p. refl) (
    both_exact number_exact (both_exact number_exact (both_exact number_exact (both_exact number_exact (both_exact number_exact authority_exact)))))
