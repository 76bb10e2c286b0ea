use Rattle.std.proofs.Common.{◌≡◌, ◌++◌, take}
use Rattle.etcs_group.proofs.message.push_all.Given as goal

abbrev pub invariant-loop-packet : goal.invariant-loop-packet
invariant-loop-packet l = l.packets.items ≡ l.fn.packets.items ++ take l.packet-index l.more
