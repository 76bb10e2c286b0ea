use Rattle.std.proofs.Common.{drop}
use Rattle.etcs_bodies.specs.Taking.{named}
use Rattle.etcs_json_trees.specs.PairTexts.{pairs_left}
use Rattle.etcs_json_trees.proofs.WrittenRows.{IsPut}
use Rattle.etcs_json_trees.proofs.written.rows.put_items.Given as goal

abbrev pub invariant-loop-item : goal.invariant-loop-item
invariant-loop-item l =
    IsPut l.fn.row.items.now (drop l.item-index l.fn.row.items.now) (named (pairs_left l.initial.pairs.after l.initial.pairs.left.now)) (named (pairs_left l.pairs.after l.pairs.left.now)) l.fn.out l.out
