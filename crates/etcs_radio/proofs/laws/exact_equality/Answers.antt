use Rattle.etcs_packets.proofs.Equality.{packet_exact}
use Rattle.etcs_radio.proofs.Equality.{head_exact, body_exact}
use Rattle.etcs_radio.proofs.laws.exact_equality.Goals as goal

pub exact_equality-requires : goal.exact_equality-requires
exact_equality-requires c = record { head = head_exact; own = body_exact; packets = packet_exact }
