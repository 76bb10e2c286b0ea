use Rattle.std.proofs.Common.{refl}
use Rattle.etcs_packets.specs.PacketValues.{typed}
use Rattle.etcs_sequence.proofs.seen.PacketCountPacketSink.whole.Goals as goal

pub returns-then-passed-clause-row : goal.returns-then-passed-clause-row
returns-then-passed-clause-row g c = λ found. (let (r, framed, is, sent) = c.in_ok-passed.ensures.passed found in (framed.0, framed.1))

pub returns-then-passed-clause-packet : goal.returns-then-passed-clause-packet
returns-then-passed-clause-packet g c = λ found. (let (r, framed, is, sent) = c.in_ok-passed.ensures.passed found in (typed c.args.nid c.args.dir r, ((refl, refl), (framed, is))))
