use Rattle.etcs_text.proofs.Written.{one_spelling}
use Rattle.etcs_text.proofs.laws.one_item.Goals as goal

pub returns : goal.returns
returns c = one_spelling
