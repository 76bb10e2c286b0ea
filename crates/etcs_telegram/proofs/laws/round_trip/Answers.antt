use Rattle.std.proofs.Common.{◌≡◌, take, ap, ◌∙◌, arith}
use Rattle.std.specs.Prelude.{IfSome, IfNone}
use Rattle.etcs_bits.specs.Bits.{bits}
use Rattle.etcs_vars.specs.Reading.{NoneYet}
use Rattle.etcs_sequence.specs.Firsts.{IsFirst}
use Rattle.etcs_telegram.specs.Readers.{ReaderValue}
use Rattle.etcs_telegram.specs.Telegrams.{ReadsAs, TelegramLanguage, IsTelegram, telegram_value}
use Rattle.etcs_telegram.proofs.RoundTrips.{read_again, some_again, container_small}
use Rattle.etcs_telegram.proofs.laws.round_trip.Goals as goal

pub unreachable-requires-in-None : goal.unreachable-requires-in-None
unreachable-requires-in-None c =
    let t = c.args.telegram.now in
    let e = c.in-Ok.ensures.ok in
    let wrote = e.0 in
    let size = c.reader.inside.reader.size in
    let same : size ≡ t.size = ap (λ (v : ReaderValue). v.size) (c.reader.view_is ∙ c.new-reader.ensures) ∙ c.size.ensures in
    let none : IfNone c.in_ok-again.field-0 (NoneYet (TelegramLanguage size) (bits (take c.in-Ok.len c.encode_into.new.out))) = c.in_ok-again.ensures.none in
    some_again t _ c.encode_into.new.out c.in-Ok.len size c.encode_into.auto.out (omega (arith, wrote, container_small t.size)) c.readable.ensures.value e same (rw c.in-None.is at none)

pub returns : goal.returns
returns c =
    let t = c.args.telegram.now in
    let e = c.in-Ok.ensures.ok in
    let wrote = e.0 in
    let size = c.reader.inside.reader.size in
    let same : size ≡ t.size = ap (λ (v : ReaderValue). v.size) (c.reader.view_is ∙ c.new-reader.ensures) ∙ c.size.ensures in
    let first : IfSome c.in_ok-again.field-0 (λ f. IsFirst (ReadsAs size) telegram_value IsTelegram (take c.in-Ok.len c.encode_into.new.out) f.0 f.1) = c.in_ok-again.ensures.some in
    read_again t _ c.encode_into.new.out c.in-Ok.len size c.encode_into.auto.out (omega (arith, wrote, container_small t.size)) c.readable.ensures.value e same c.in-Some.again c.in-Some.field-0-1 (rw c.in-Some.is at first)
