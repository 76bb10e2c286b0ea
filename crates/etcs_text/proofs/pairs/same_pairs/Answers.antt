use Rattle.etcs_text.proofs.Sames.{same_decided}
use Rattle.etcs_text.proofs.pairs.same_pairs.Goals as goal

pub returns : goal.returns
returns c = same_decided c.args.first.now c.args.second.now c.eq.result c.eq.ensures c.hold.ensures c.hold-2.ensures
