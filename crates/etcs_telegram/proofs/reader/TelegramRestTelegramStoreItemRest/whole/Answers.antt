use Rattle.std.proofs.Common.{◌∙◌, arith}
use Rattle.etcs_bits.proofs.Positions.{length-bits}
use Rattle.etcs_telegram.proofs.reader.TelegramRestTelegramStoreItemRest.whole.Goals as goal

pub returns-clause-within : goal.returns-clause-within
returns-clause-within c = omega (arith, c.in_ok-telegram.ensures.within, c.container_bytes.ensures, length-bits c.args.piece.now)

pub returns-clause-reads : goal.returns-clause-reads
returns-clause-reads c = rw c.container_bytes.ensures c.in_ok-telegram.ensures.reads

pub telegram_at-requires-clause-part : goal.telegram_at-requires-clause-part
telegram_at-requires-clause-part c = rw c.requires.none tt

pub returns-clause-left : goal.returns-clause-left
returns-clause-left c = c.in_ok-telegram.ensures.left ∙ c.requires.none
