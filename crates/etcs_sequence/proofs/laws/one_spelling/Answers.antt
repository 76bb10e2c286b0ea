use Rattle.etcs_sequence.proofs.OneSpelling.{one_spelling}
use Rattle.etcs_sequence.proofs.laws.one_spelling.Goals as goal

pub returns : goal.returns
returns c = one_spelling
