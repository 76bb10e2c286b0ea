use Rattle.etcs_json.proofs.OneItems.{tree_of}
use Rattle.etcs_json.proofs.OneStored.{tree_said, tree_refused, tree_not_both}
use Rattle.etcs_json.proofs.OwnStored.{says_itself}
use Rattle.etcs_json.proofs.laws.one_tree.Goals as goal

pub returns : goal.returns
returns c = record { own = tree_of; says = says_itself; said = tree_said; refused = tree_refused; either = tree_not_both }
