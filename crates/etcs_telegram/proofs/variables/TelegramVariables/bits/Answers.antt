use Rattle.std.proofs.Common.{◌*◌, ap, sym, ◌∙◌}
use Rattle.etcs_telegram.specs.Telegrams.{container_bytes, telegram_value}
use Rattle.etcs_telegram.proofs.Appending.{reading_length}
use Rattle.etcs_telegram.proofs.variables.TelegramVariables.bits.Goals as goal

pub returns-clause-bits : goal.returns-clause-bits
returns-clause-bits c = ap (λ k. 8 * k) (c.container_bytes.ensures ∙ ap container_bytes c.size.ensures) ∙ sym (reading_length (telegram_value c.args.self.now) c.readable.ensures.reads)
