-- Packet 76, the fixed text message (SUBSET-026, 7.4.2).
use Rattle.std.proofs.Common.{ℕ, Option}
use Rattle.etcs_vars.specs.declared.var.Var.TheVariants.{Q_TEXT}
use Rattle.etcs_vars.specs.declared.fault.BuildFault.{BuildFault}
use Rattle.etcs_bodies.specs.Formats.{number, ◌⊗◌, part}
use Rattle.etcs_bodies.specs.PacketFormats.{PacketFormat, packet_of, packet_fault}
use Rattle.etcs_parts.specs.declared.text_frame.TextFrame.{TextFrame}
use Rattle.etcs_parts.specs.TextFrames.{text_frame_format}
pub use Rattle.etcs_grouped.specs.declared.fixed_text.FixedText.TheInside.{Inside as FixedText}

-- packet 76, of this direction and these numbers and parts, in the order of the constructor's
abbrev pub fixed_text_value : ℕ → TextFrame → ℕ → FixedText
fixed_text_value dir frame q_text = record { dir = dir; frame = frame; q_text = q_text }

-- the format of packet 76: its direction, and its variables after L_PACKET in the order of sending
abbrev pub fixed_text_packet : PacketFormat (TextFrame × ℕ) FixedText
fixed_text_packet =
    packet_of (λ p. p.dir) (λ p. (p.frame, p.q_text)) (λ dir b. record { dir = dir; frame = b.0; q_text = b.1 }) (
    part text_frame_format ⊗ number Q_TEXT)

-- the first fault of packet 76: the direction, then the number of the text; the frame isn't looked at again
abbrev pub fixed_text_fault : FixedText → Option BuildFault
fixed_text_fault = packet_fault fixed_text_packet
