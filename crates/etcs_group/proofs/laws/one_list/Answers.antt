use Rattle.etcs_group.proofs.OneGroups.{one_list, one_of_each, one_text}
use Rattle.etcs_group.proofs.laws.one_list.Goals as goal

pub returns-clause-groups : goal.returns-clause-groups
returns-clause-groups c = one_list

pub returns-clause-distinct : goal.returns-clause-distinct
returns-clause-distinct c = one_of_each

pub returns-clause-text : goal.returns-clause-text
returns-clause-text c = one_text
