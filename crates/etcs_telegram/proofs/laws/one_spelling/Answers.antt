use Rattle.etcs_telegram.proofs.Spellings.{one_spelling}
use Rattle.etcs_telegram.proofs.laws.one_spelling.Goals as goal

pub returns : goal.returns
returns c = one_spelling
