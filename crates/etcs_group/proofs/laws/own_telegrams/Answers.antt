use Rattle.etcs_group.proofs.OwnTelegrams.{own_telegrams}
use Rattle.etcs_group.proofs.laws.own_telegrams.Goals as goal

pub returns : goal.returns
returns c = own_telegrams
