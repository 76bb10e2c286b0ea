use Rattle.etcs_train.proofs.laws.one_spelling.Goals as goal

pub returns : goal.returns
returns c = c.one_spelling.ensures
