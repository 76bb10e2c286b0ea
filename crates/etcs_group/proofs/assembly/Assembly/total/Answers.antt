use Rattle.etcs_group.proofs.assembly.Assembly.total.Goals as goal

pub returns-in-Some-clause-total : goal.returns-in-Some-clause-total
returns-in-Some-clause-total c = λ t held. let same = (c.in-Some.ensures.alike t held).total in cc
