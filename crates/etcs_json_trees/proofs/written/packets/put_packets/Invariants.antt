use Rattle.etcs_json_trees.proofs.WrittenPackets.{IsListing}
use Rattle.etcs_json_trees.proofs.written.packets.put_packets.Given as goal

abbrev pub invariant-loop : goal.invariant-loop
invariant-loop g l = IsListing g.P.AnyPacket.WAY l.fn.has_marker l.fn.text l.left l.fn.out l.out
