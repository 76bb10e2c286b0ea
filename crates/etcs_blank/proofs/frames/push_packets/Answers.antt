use Rattle.std.proofs.Common.{arith}
use Rattle.etcs_blank.proofs.Lengths.{packet_within}
use Rattle.etcs_blank.proofs.frames.push_packets.Goals as goal

pub returns-then-not-branch : goal.returns-then-not-branch
returns-then-not-branch c =
    omega (arith, packet_within c.args.way c.args.nids.now c.loop-nid.nid-index c.loop-nid-test.true, rw c.if-not-branch.true at c.in_ok-push_packet.ensures)
