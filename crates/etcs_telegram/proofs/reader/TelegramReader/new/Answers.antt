use Rattle.etcs_telegram.proofs.Reading.{telegrams}
use Rattle.etcs_telegram.proofs.reader.TelegramReader.new.Goals as goal

pub new-requires-clause-readable : goal.new-requires-clause-readable
new-requires-clause-readable c = telegrams c.args.size
