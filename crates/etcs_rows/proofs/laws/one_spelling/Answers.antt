use Rattle.etcs_rows.proofs.RowLaws.{one_spelling}
use Rattle.etcs_rows.proofs.laws.one_spelling.Goals as goal

pub returns : goal.returns
returns c = one_spelling
