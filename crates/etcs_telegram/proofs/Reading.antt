-- What a reader of telegrams asks of what is left of one.
use Rattle.std.proofs.Common.{◌≡◌, ◌*◌, ◌%◌, ◌^◌, ◌<◌, ◌≤◌, length, refl, ◌∙◌, arith}
use Rattle.etcs_vars.specs.Reading.{Reading, spelled}
use Rattle.etcs_packets.specs.declared.packet.Packet.{Packet}
use Rattle.etcs_sequence.specs.Readables.{Readable}
use Rattle.etcs_telegram.specs.declared.size.Size.{Size}
use Rattle.etcs_telegram.specs.declared.size.Size.TheVariants.{Short, Long}
use Rattle.etcs_telegram.specs.declared.store.TelegramStore.{TelegramStore}
use Rattle.etcs_telegram.specs.Telegrams.{TelegramContent, TelegramValue, TelegramLanguage, ReadsAs, IsTelegram, telegram_value, container_bytes}
use Rattle.etcs_telegram.specs.Lefts.{TelegramState, Left, next_var, MayAsk, Follows}
use Rattle.etcs_telegram.specs.laws.RestLaws.{rest_begins, rest_ended}
use Rattle.etcs_telegram.specs.Readers.{store_holds, so_far, telegram_by, telegram_bits, OwnHeld, Members}
use Rattle.etcs_telegram.proofs.Encoding.{whole_bytes}
use Rattle.etcs_telegram.proofs.Examples.{some_telegram}
use Rattle.etcs_telegram.proofs.Finished.{finished_is}
use Rattle.etcs_telegram.proofs.Holding.{members_at}
use Rattle.etcs_telegram.proofs.Spellings.{regular, whole_length}
use Rattle.etcs_telegram.proofs.SoFar.{far_is, far_long, next_asks}

abbrev fails : TelegramState TelegramStore → Type 0
fails s = Unit {0} × MayAsk s

small : (size : Size) → 8 * container_bytes size < 2 ^ 64
small Short = omega arith
small Long = omega arith

bytes_of : (size : Size) (r : Reading) → TelegramLanguage size r → (length (spelled r) % 8 ≡ 0) × (length (spelled r) ≤ 8 * container_bytes size)
bytes_of size r l =
    let long : length (spelled r) ≡ 8 * container_bytes size = whole_length size r l ∙ whole_bytes size in
    (omega (arith, long), omega (arith, long))

some_bits : (size : Size) (r : Reading) → TelegramLanguage size r → 0 < length (spelled r)
some_bits Short r l = omega (arith, whole_length Short r l)
some_bits Long r l = omega (arith, whole_length Long r l)

bits_counted : (size : Size) (t : TelegramContent) (r : Reading) → IsTelegram t → ReadsAs size (telegram_value t) r → length (spelled r) ≡ telegram_bits t
bits_counted size t r is (same, reads) = whole_length t.size r (telegram_value t, (refl, reads))

pub telegrams : (size : Size) → Readable (TelegramState TelegramStore) TelegramContent TelegramValue Packet Left next_var (Follows store_holds) fails so_far (OwnHeld size) (ReadsAs size) telegram_value IsTelegram telegram_bits telegram_by (λ s. s.store.list) Members (container_bytes size) 50
telegrams size = record {
  regular = regular size;
  some = some_telegram size;
  bytes = bytes_of size;
  room = small size;
  long = some_bits size;
  begins_with = rest_begins;
  ended = rest_ended;
  residual = λ s t p h. h.residual;
  held = λ s t p q h k. (h.same ∙ k.0, h.held q k.1);
  far_is = λ s q g h. far_is s q g h.1;
  starved = λ s q f h. far_long store_holds s q f.1 h.1;
  asks = λ s q x e g f h. next_asks store_holds s q x e g f.1 h.1;
  whole = λ s e l h. (let is = finished_is size s e l h in (is.telegram, is.reads));
  counted = bits_counted size;
  members = λ s part x e g h short whole. members_at s (so_far s) x e g h.1;
}
