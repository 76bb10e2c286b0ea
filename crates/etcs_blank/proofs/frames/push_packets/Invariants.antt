use Rattle.std.proofs.Common.{◌≡◌, ◌++◌, take}
use Rattle.etcs_blank.specs.Blanks.{blank_packets}
use Rattle.etcs_blank.proofs.frames.push_packets.Given as goal

abbrev pub invariant-loop-nid : goal.invariant-loop-nid
invariant-loop-nid l = l.pairs.items ≡ l.fn.pairs.items ++ blank_packets l.way (take l.nid-index l.nids)
