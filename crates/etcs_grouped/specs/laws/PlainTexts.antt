-- Lemmas about specs/PlainTexts.antt.
use Rattle.std.proofs.Common.{◌≡◌, ℕ, ◌+◌, ◌*◌, ◌≤◌, List, length, None, refl, arith, Decides}
use Rattle.etcs_vars.specs.declared.var.Var.TheVariants.{L_TEXT, X_TEXT}
use Rattle.etcs_vars.specs.Reading.{spelled}
use Rattle.etcs_tables.specs.declared.row.Way.TheVariants.{ToTrain}
use Rattle.etcs_bodies.specs.Packets.{packet_from}
use Rattle.etcs_bodies.specs.PacketCodes.{PacketCodes}
use Rattle.etcs_bodies.specs.PacketFormats.{IsPacketOf, packet_reading, packet_left}
use Rattle.etcs_bodies.specs.Faults.{count_fault}
use Rattle.etcs_bodies.specs.Formats.{number, reading}
use Rattle.etcs_bodies.specs.laws.Takes.{in_width, counted_admitted}
use Rattle.etcs_bodies.specs.laws.Choices.{bit_count-same}
use Rattle.etcs_bodies.specs.laws.Repeats.{bit_count_is, bit_count-append}
use Rattle.etcs_bodies.specs.laws.PacketFormats.{IsPacketFormat, codes_of_packet}
use Rattle.etcs_bodies.specs.laws.Equality.{number_exact, list_exact, both_exact, fields_exact}
use Rattle.etcs_parts.specs.TextFrames.{text_frame_format}
use Rattle.etcs_parts.specs.laws.TextFrames.{text_frame_ok, text_frame_exact}
use Rattle.etcs_grouped.specs.PlainTexts.{text_format, PlainText, plain_text_value, plain_text_packet}
use Rattle.etcs_grouped.specs.contracts.plain_text.PlainTextPartialEq.TheImpl as plain_text_eq

pub plain_text_ok : IsPacketFormat plain_text_packet
plain_text_ok = record { again = λ p. refl; dir_is = λ dir b. refl; rest_is = λ dir b. refl; body = (text_frame_ok, tt); short = refl }

pub plain_text_codes : PacketCodes ToTrain 72 (λ (p : PlainText). p.dir) (IsPacketOf plain_text_packet) (packet_reading plain_text_packet) (packet_from (packet_left plain_text_packet))
plain_text_codes = codes_of_packet plain_text_packet plain_text_ok 72 refl

-- ---- Its bits.

pub few_bytes : (text : List ℕ) → count_fault L_TEXT (length text) ≡ None → length text ≤ 255
few_bytes text h = let few = in_width L_TEXT (length text) (counted_admitted L_TEXT (length text) h) in omega arith

pub plain_text_length : (p : PlainText) → length (spelled (packet_reading plain_text_packet p)) ≡ length (spelled (reading text_frame_format p.frame)) + 8 + 8 * length p.text
plain_text_length p =
    let both = bit_count-append (reading text_frame_format p.frame) (reading text_format p.text) in
    let bytes = bit_count-same (reading (number X_TEXT)) 8 (λ n. refl) p.text in
    rw (bit_count_is (packet_reading plain_text_packet p), bit_count_is (reading text_frame_format p.frame)) (omega arith)

-- ---- Its `==`.

pub plain_text_exact : (a b : PlainText) → Decides (plain_text_eq.ghosts.eq a b) (a ≡ b)
plain_text_exact =
    fields_exact (λ (p : PlainText). (p.dir, (p.text, p.frame))) (λ n. plain_text_value n.0 n.1.1 n.1.0) (λ p. refl) (
    both_exact number_exact (both_exact (list_exact number_exact) text_frame_exact))
