use Rattle.etcs_track.specs.laws.Equality.{train_packet_exact}
use Rattle.etcs_train.proofs.Equality.{head_exact, body_exact}
use Rattle.etcs_train.proofs.laws.exact_equality.Goals as goal

pub exact_equality-requires : goal.exact_equality-requires
exact_equality-requires c = record { head = head_exact; own = body_exact; packets = train_packet_exact }
