use Rattle.etcs_rows.proofs.WholeWalks.{walks_whole}
use Rattle.etcs_rows.proofs.laws.walks.Goals as goal

pub returns : goal.returns
returns c = walks_whole
