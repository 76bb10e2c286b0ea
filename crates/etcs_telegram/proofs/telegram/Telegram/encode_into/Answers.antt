use Rattle.std.proofs.Common.{Bool, List, ◌++◌, drop, ap, ◌∙◌}
use Rattle.etcs_bits.specs.Bits.{bits}
use Rattle.etcs_telegram.specs.Telegrams.{container_bytes, telegram_value}
use Rattle.etcs_telegram.specs.Writing.{telegram_reading}
use Rattle.etcs_bits.proofs.ByteBits.{bits-append}
use Rattle.etcs_telegram.proofs.telegram.Telegram.encode_into.Goals as goal

pub returns-clause-ok : goal.returns-clause-ok
returns-clause-ok c =
    let beyond = drop c.container_bytes-len.result c.args.out.now in (
      c.container_bytes-len.ensures ∙ ap container_bytes c.size.ensures,
      telegram_reading (telegram_value c.args.self.now),
      c.write_telegram.ensures.reads,
      bits-append c.write_telegram.new.out beyond ∙ ap (λ (b : List Bool). b ++ bits beyond) c.write_telegram.ensures.bits,
    )
