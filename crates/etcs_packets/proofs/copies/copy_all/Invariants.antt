use Rattle.std.proofs.Common.{◌≡◌, take}
use Rattle.etcs_packets.proofs.copies.copy_all.Given as goal

abbrev pub invariant-loop-packet : goal.invariant-loop-packet
invariant-loop-packet g l = l.copies.items ≡ take l.packet-index l.packets
