use Rattle.std.proofs.Common.{subst}
use Rattle.std.specs.Prelude.{IfSome}
use Rattle.etcs_sequence.specs.Holdings.{IsHeld}
use Rattle.etcs_telegram.specs.Telegrams.{TelegramLanguage}
use Rattle.etcs_telegram.specs.Readers.{ReaderValue, Members}
use Rattle.etcs_telegram.proofs.reader.TelegramReader.held.Goals as goal

pub returns-clause-some : goal.returns-clause-some
returns-clause-some c =
    subst (λ (v : ReaderValue). IfSome c.held.result (λ h. IsHeld (TelegramLanguage v.size) (Members h.packets.now h.numbers.now h.kept) v.progress h.part h.taken)) c.self.view_is c.held.ensures.some
