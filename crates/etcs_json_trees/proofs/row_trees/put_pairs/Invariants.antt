use Rattle.std.proofs.Common.{drop}
use Rattle.serde_json.specs.View.{items_view}
use Rattle.etcs_tables.specs.Layouts.{layout}
use Rattle.etcs_json_trees.proofs.PairLemmas.{IsBegun}
use Rattle.etcs_json_trees.proofs.row_trees.put_pairs.Given as goal

abbrev pub invariant-loop-value : goal.invariant-loop-value
invariant-loop-value l = IsBegun (layout l.fn.row.items.now) (items_view l.list) l.place (items_view (drop l.value-index l.list)) l.fn.out l.out
