use Rattle.etcs_train.proofs.laws.one_holding.Goals as goal

pub returns : goal.returns
returns c = c.one_holding.ensures
