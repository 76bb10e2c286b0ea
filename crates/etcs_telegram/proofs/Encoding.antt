-- Bits written one after another.
use Rattle.std.proofs.Common.{◌≡◌, ℕ, ◌+◌, ◌*◌, ◌≤◌, Bool, false, List, ◌++◌, length, refl, sym, ap, ◌∙◌, arith, append_assoc, append-nil, length-append}
use Rattle.std.specs.Prelude.{replicate}
use Rattle.etcs_bits.specs.Bits.{num}
use Rattle.etcs_bits.proofs.Numbers.{length-num}
use Rattle.etcs_vars.specs.declared.var.Var.TheVariants.{FILL, PAD}
use Rattle.etcs_vars.specs.Reading.{spelled, kept}
use Rattle.etcs_vars.specs.laws.Spellings.{spelled-append}
use Rattle.etcs_rows.specs.declared.frames.Carrier.TheVariants as carrier
use Rattle.etcs_packets.specs.PacketValues.{PacketValue}
use Rattle.etcs_packets.specs.PacketReadings.{packets_reading}
use Rattle.etcs_sequence.specs.Contents.{closing}
use Rattle.etcs_sequence.specs.laws.BitLaws.{bits_spelled}
use Rattle.etcs_telegram.proofs.Ones.{num-zeros}
use Rattle.etcs_telegram.specs.declared.size.Size.{Size}
use Rattle.etcs_telegram.specs.declared.size.Size.TheVariants.{Short, Long}
use Rattle.etcs_telegram.specs.Telegrams.{TelegramContent, TelegramValue, TelegramReads, IsTelegram, telegram_value, header_reading, closed_reading, user_bits, pad_bits, packet_room, container_bytes}
use Rattle.etcs_telegram.specs.Writing.{telegram_reading}
use Rattle.etcs_telegram.proofs.HeaderLemmas.{header_length}

pub room_more : (size : Size) → 50 + packet_room size ≡ user_bits size
room_more Short = refl
room_more Long = refl

pub user_small : (size : Size) → user_bits size ≤ 830
user_small Short = omega arith
user_small Long = omega arith

-- every telegram of a size has the container's bytes
pub whole_bytes : (size : Size) → user_bits size + pad_bits size ≡ 8 * container_bytes size
whole_bytes Short = refl
whole_bytes Long = refl

pub telegram_reads : (t : TelegramContent) → IsTelegram t → TelegramReads (telegram_value t) (telegram_reading (telegram_value t))
telegram_reads t i = record {
  header_admitted = i.header;
  packets_hold = i.packets;
  reading_is = refl;
  user_bits_is = omega (arith, header_length t.header, i.fill);
}

closed_spelled : (vs : List PacketValue) → spelled (closed_reading vs) ≡ spelled (packets_reading vs) ++ num 8 255
closed_spelled vs = spelled-append (packets_reading vs) (closing carrier.Telegram) ∙ ap (λ (b : List Bool). spelled (packets_reading vs) ++ b) (append-nil (num 8 255))

pub closed_length : (vs : List PacketValue) → length (spelled (closed_reading vs)) ≡ length (spelled (packets_reading vs)) + 8
closed_length vs = ap length (closed_spelled vs) ∙ length-append (spelled (packets_reading vs)) (num 8 255) ∙ ap (λ (k : ℕ). length (spelled (packets_reading vs)) + k) (length-num 8 255)

-- header, packets with packet 255, FILL and zeros
pub telegram_inner : (t : TelegramValue) → spelled (telegram_reading t) ≡ ((spelled (header_reading t.header) ++ spelled (closed_reading t.packets)) ++ t.fill) ++ num (pad_bits t.size) 0
telegram_inner t =
    let h = header_reading t.header in
    let c = closed_reading t.packets in
    let f = kept FILL t.fill in
    let z = kept PAD (replicate (pad_bits t.size) false) in
    let fill : spelled f ≡ t.fill = bits_spelled FILL t.fill refl in
    let zeros : spelled z ≡ num (pad_bits t.size) 0 = bits_spelled PAD (replicate (pad_bits t.size) false) refl ∙ sym (num-zeros (pad_bits t.size)) in
    let first : spelled ((h ++ c) ++ f) ≡ (spelled h ++ spelled c) ++ t.fill =
    spelled-append (h ++ c) f ∙ ap (λ (b : List Bool). b ++ spelled f) (spelled-append h c) ∙ ap (λ (b : List Bool). (spelled h ++ spelled c) ++ b) fill in
    spelled-append ((h ++ c) ++ f) z ∙ ap (λ (b : List Bool). b ++ spelled z) first ∙ ap (λ (b : List Bool). ((spelled h ++ spelled c) ++ t.fill) ++ b) zeros

pub telegram_bits : (t : TelegramValue) → spelled (telegram_reading t) ≡ (((spelled (header_reading t.header) ++ spelled (packets_reading t.packets)) ++ num 8 255) ++ t.fill) ++ num (pad_bits t.size) 0
telegram_bits t =
    let head = spelled (header_reading t.header) in
    let packets = spelled (packets_reading t.packets) in
    let closed : head ++ spelled (closed_reading t.packets) ≡ (head ++ packets) ++ num 8 255 = ap (λ (b : List Bool). head ++ b) (closed_spelled t.packets) ∙ sym (append_assoc head packets (num 8 255)) in
    telegram_inner t ∙ ap (λ (b : List Bool). (b ++ t.fill) ++ num (pad_bits t.size) 0) closed
