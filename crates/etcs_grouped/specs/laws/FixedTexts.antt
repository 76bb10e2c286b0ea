-- Lemmas about specs/FixedTexts.antt.
use Rattle.std.proofs.Common.{◌≡◌, ◌+◌, [], ◌∷◌, length, refl, arith, Decides}
use Rattle.etcs_vars.specs.declared.var.Var.TheVariants.{Q_TEXT}
use Rattle.etcs_vars.specs.Reading.{spelled}
use Rattle.etcs_tables.specs.declared.row.Way.TheVariants.{ToTrain}
use Rattle.etcs_bodies.specs.Packets.{packet_from}
use Rattle.etcs_bodies.specs.PacketCodes.{PacketCodes}
use Rattle.etcs_bodies.specs.PacketFormats.{IsPacketOf, packet_reading, packet_left}
use Rattle.etcs_bodies.specs.Formats.{reading}
use Rattle.etcs_bodies.specs.laws.Repeats.{bit_count_is, bit_count-append}
use Rattle.etcs_bodies.specs.laws.PacketFormats.{IsPacketFormat, codes_of_packet}
use Rattle.etcs_bodies.specs.laws.Equality.{number_exact, both_exact, fields_exact}
use Rattle.etcs_parts.specs.TextFrames.{text_frame_format}
use Rattle.etcs_parts.specs.laws.TextFrames.{text_frame_ok, text_frame_exact}
use Rattle.etcs_grouped.specs.FixedTexts.{FixedText, fixed_text_value, fixed_text_packet}
use Rattle.etcs_grouped.specs.contracts.fixed_text.FixedTextPartialEq.TheImpl as fixed_text_eq

pub fixed_text_ok : IsPacketFormat fixed_text_packet
fixed_text_ok = record { again = λ p. refl; dir_is = λ dir b. refl; rest_is = λ dir b. refl; body = (text_frame_ok, tt); short = refl }

pub fixed_text_codes : PacketCodes ToTrain 76 (λ (p : FixedText). p.dir) (IsPacketOf fixed_text_packet) (packet_reading fixed_text_packet) (packet_from (packet_left fixed_text_packet))
fixed_text_codes = codes_of_packet fixed_text_packet fixed_text_ok 76 refl

-- ---- Its bits.

pub fixed_text_length : (p : FixedText) → length (spelled (packet_reading fixed_text_packet p)) ≡ length (spelled (reading text_frame_format p.frame)) + 8
fixed_text_length p =
    let both = bit_count-append (reading text_frame_format p.frame) ((Q_TEXT, p.q_text) ∷ []) in
    rw (bit_count_is (packet_reading fixed_text_packet p), bit_count_is (reading text_frame_format p.frame)) (omega arith)

-- ---- Its `==`.

pub fixed_text_exact : (a b : FixedText) → Decides (fixed_text_eq.ghosts.eq a b) (a ≡ b)
fixed_text_exact =
    fields_exact (λ (p : FixedText). (p.dir, (p.q_text, p.frame))) (λ n. fixed_text_value n.0 n.1.1 n.1.0) (λ p. refl) (
    both_exact number_exact (both_exact number_exact text_frame_exact))
