use Rattle.std.proofs.Common.{subst}
use Rattle.etcs_telegram.specs.Telegrams.{TelegramContent, TelegramReads, IsTelegram, telegram_value}
use Rattle.etcs_telegram.specs.Writing.{telegram_reading}
use Rattle.etcs_telegram.proofs.Spellings.{held}
use Rattle.etcs_telegram.proofs.Encoding.{telegram_reads}
use Rattle.etcs_telegram.proofs.telegram.Telegram.readable.Goals as goal

pub returns-clause-reads : goal.returns-clause-reads
returns-clause-reads c =
    let f = c.self.inside in
    let t = held f.size f.header f.packets f.fill in
    subst (λ (u : TelegramContent). TelegramReads (telegram_value u) (telegram_reading (telegram_value u))) c.self.view_is (telegram_reads t c.self.invariant)

pub returns-clause-value : goal.returns-clause-value
returns-clause-value c = subst IsTelegram c.self.view_is c.self.invariant
