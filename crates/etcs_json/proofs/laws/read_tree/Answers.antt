use Rattle.std.proofs.Common.{arith}
use Rattle.etcs_json.proofs.PlainTrees.{read_tree, tree_without, utf8_tree}
use Rattle.etcs_json.proofs.laws.read_tree.Goals as goal

pub returns : goal.returns
returns c = record { tree = read_tree; utf8 = utf8_tree; without_lf = tree_without 10 (omega arith); without_cr = tree_without 13 (omega arith) }
