-- A telegram put after other bits.
use Rattle.std.proofs.Common.{◌≡◌, ◌*◌, ◌++◌, Bool, List, length, refl, sym, ap, ◌∙◌}
use Rattle.etcs_bits.specs.Bits.{num}
use Rattle.etcs_vars.specs.Reading.{spelled}
use Rattle.etcs_packets.specs.PacketReadings.{packets_reading}
use Rattle.etcs_vars.specs.WordSinks.{and_bits}
use Rattle.etcs_vars.specs.declared.word_sink.WordSink.{WordSink}
use Rattle.etcs_vars.specs.laws.WordSinks.{and_both}
use Rattle.etcs_telegram.specs.Telegrams.{TelegramValue, TelegramReads, header_reading, pad_bits, container_bytes}
use Rattle.etcs_telegram.specs.Writing.{telegram_reading}
use Rattle.etcs_telegram.proofs.Encoding.{telegram_bits, whole_bytes}
use Rattle.etcs_telegram.proofs.Spellings.{whole_length}

-- bits after others, and more after them
put_after : (s one two : WordSink) (a b : List Bool) → one ≡ and_bits s a → two ≡ and_bits one b → two ≡ and_bits s (a ++ b)
put_after s one two a b e f = f ∙ ap (λ (t : WordSink). and_bits t b) e ∙ and_both s a b

-- header, packets, packet 255, FILL and zeros
pub appended : (t : TelegramValue) (s one two three four five : WordSink) → one ≡ and_bits s (spelled (header_reading t.header)) → two ≡ and_bits one (spelled (packets_reading t.packets)) → three ≡ and_bits two (num 8 255) → four ≡ and_bits three t.fill → five ≡ and_bits four (num (pad_bits t.size) 0) → five ≡ and_bits s (spelled (telegram_reading t))
appended t s one two three four five e1 e2 e3 e4 e5 =
    let head = spelled (header_reading t.header) in
    let packets = spelled (packets_reading t.packets) in
    let nid = num 8 255 in
    let zeros = num (pad_bits t.size) 0 in
    let b2 = put_after s one two head packets e1 e2 in
    let b3 = put_after s two three (head ++ packets) nid b2 e3 in
    let b4 = put_after s three four ((head ++ packets) ++ nid) t.fill b3 e4 in
    let b5 = put_after s four five (((head ++ packets) ++ nid) ++ t.fill) zeros b4 e5 in
    b5 ∙ ap (and_bits s) (sym (telegram_bits t))

-- ---- Whole bytes.

pub reading_length : (t : TelegramValue) → TelegramReads t (telegram_reading t) → length (spelled (telegram_reading t)) ≡ 8 * container_bytes t.size
reading_length t reads = whole_length t.size (telegram_reading t) (t, (refl, reads)) ∙ whole_bytes t.size
