use Rattle.std.proofs.Common.{ap, subst, ◌∙◌, arith}
use Rattle.std.specs.Prelude.{IfSome, IfNone}
use Rattle.etcs_bits.specs.Bits.{bits}
use Rattle.etcs_vars.specs.Reading.{NoneYet}
use Rattle.etcs_sequence.specs.Firsts.{IsFirst}
use Rattle.etcs_sequence.proofs.RoundTrips.{first_in}
use Rattle.etcs_telegram.specs.declared.size.Size.{Size}
use Rattle.etcs_telegram.specs.Readers.{ReaderValue}
use Rattle.etcs_telegram.specs.Telegrams.{ReadsAs, TelegramLanguage, IsTelegram, telegram_value}
use Rattle.etcs_telegram.proofs.RoundTrips.{written_back, container_small}
use Rattle.etcs_telegram.proofs.laws.read_back.Goals as goal

pub write_over-requires : goal.write_over-requires
write_over-requires c = omega (arith, container_small c.in-Some.telegram.size, c.told-out)

pub returns-in-Some-clause-some : goal.returns-in-Some-clause-some
returns-in-Some-clause-some c =
    let same = ap (λ (v : ReaderValue). v.size) (c.reader.view_is ∙ c.new-reader.ensures) in
    let found = subst (λ (z : Size). IfSome c.in_ok-telegram.field-0 (λ t. IsFirst (ReadsAs z) telegram_value IsTelegram c.args.bytes.now t.0 t.1)) same c.in_ok-telegram.ensures.some in
    let first = rw c.in-Some.is at found in
    (first.1, first_in (ReadsAs c.args.size) telegram_value IsTelegram c.args.bytes.now c.in-Some.telegram c.in-Some.taken first)

pub returns-in-Some-clause-back : goal.returns-in-Some-clause-back
returns-in-Some-clause-back c =
    let same = ap (λ (v : ReaderValue). v.size) (c.reader.view_is ∙ c.new-reader.ensures) in
    let found = subst (λ (z : Size). IfSome c.in_ok-telegram.field-0 (λ t. IsFirst (ReadsAs z) telegram_value IsTelegram c.args.bytes.now t.0 t.1)) same c.in_ok-telegram.ensures.some in
    let first = rw c.in-Some.is at found in
    written_back c.args.size c.args.bytes.now c.write_over.new.out c.in-Some.taken c.in-Some.telegram first (c.write_over.auto.out ∙ c.told-out) c.write_over.ensures.writes (λ k. (c.type_inv.bytes k).fits) c.write_over.ensures.bytes

pub returns-in-None-clause-none : goal.returns-in-None-clause-none
returns-in-None-clause-none c =
    let same = ap (λ (v : ReaderValue). v.size) (c.reader.view_is ∙ c.new-reader.ensures) in
    let none = subst (λ (z : Size). IfNone c.in_ok-telegram.field-0 (NoneYet (TelegramLanguage z) (bits c.args.bytes.now))) same c.in_ok-telegram.ensures.none in
    rw c.in-None.is at none
