use Rattle.etcs_packets.proofs.Equality.{packet_exact}
use Rattle.etcs_packets.proofs.laws.exact_packet.Goals as goal

pub returns : goal.returns
returns c = rw c.eq.ensures (packet_exact c.args.first.now c.args.second.now)
