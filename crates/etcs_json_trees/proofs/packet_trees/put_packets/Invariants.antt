use Rattle.std.proofs.Common.{drop}
use Rattle.serde_json.specs.View.{items_view}
use Rattle.etcs_json_trees.proofs.PacketTrees.{ArePut}
use Rattle.etcs_json_trees.proofs.packet_trees.put_packets.Given as goal

abbrev pub invariant-loop-value : goal.invariant-loop-value
invariant-loop-value l = ArePut l.fn.way l.fn.has_marker (items_view l.list) (items_view (drop l.value-index l.list)) l.fn.out l.out
