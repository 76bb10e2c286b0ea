-- Packet 72, the plain text message (SUBSET-026, 7.4.2).
use Rattle.std.proofs.Common.{ℕ, List, Option}
use Rattle.etcs_vars.specs.declared.var.Var.TheVariants.{L_TEXT, X_TEXT}
use Rattle.etcs_vars.specs.declared.fault.BuildFault.{BuildFault}
use Rattle.etcs_bodies.specs.Formats.{Format, number, ◌⊗◌, part, listed}
use Rattle.etcs_bodies.specs.PacketFormats.{PacketFormat, packet_of, packet_fault}
use Rattle.etcs_parts.specs.declared.text_frame.TextFrame.{TextFrame}
use Rattle.etcs_parts.specs.TextFrames.{text_frame_format}
pub use Rattle.etcs_grouped.specs.declared.plain_text.PlainText.TheInside.{Inside as PlainText}

-- the format of a text: L_TEXT, and this many bytes
abbrev pub text_format : Format (List ℕ)
text_format = listed L_TEXT (number X_TEXT)

-- packet 72, of this direction and these numbers and parts, in the order of the constructor's
abbrev pub plain_text_value : ℕ → TextFrame → List ℕ → PlainText
plain_text_value dir frame text = record { dir = dir; frame = frame; text = text }

-- the format of packet 72: its direction, and its variables after L_PACKET in the order of sending
abbrev pub plain_text_packet : PacketFormat (TextFrame × List ℕ) PlainText
plain_text_packet =
    packet_of (λ p. p.dir) (λ p. (p.frame, p.text)) (λ dir b. record { dir = dir; frame = b.0; text = b.1 }) (
    part text_frame_format ⊗ text_format)

-- the first fault of packet 72: the direction, then the count of bytes; the frame isn't looked at again
abbrev pub plain_text_fault : PlainText → Option BuildFault
plain_text_fault = packet_fault plain_text_packet
