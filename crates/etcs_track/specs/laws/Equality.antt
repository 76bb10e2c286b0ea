-- `==` of packets to the track and of their parts is equality of their values.
use Rattle.std.proofs.Common.{◌≡◌, Decides, nat_eq, refl}
use Rattle.std.specs.Cmp.Lexicographic.{pointwise}
use Rattle.etcs_bodies.specs.Equality.{IsExact}
use Rattle.etcs_bodies.specs.laws.Equality.{number_exact, flag_exact, option_exact, list_exact, both_exact, fields_exact}
use Rattle.etcs_packets.proofs.Equality.{enum_exact, one}
use Rattle.etcs_track.specs.Locations.{Located, located_value}
use Rattle.etcs_track.specs.Reports.{PositionReport, position_report_value, PositionReportTwo, position_report_two_value}
use Rattle.etcs_track.specs.TrainOthers.{TrainOther, train_other_value}
use Rattle.etcs_track.specs.contracts.located.LocatedPartialEq.TheImpl as located
use Rattle.etcs_track.specs.contracts.position_report.PositionReportPartialEq.TheImpl as position_report
use Rattle.etcs_track.specs.contracts.position_report_two.PositionReportTwoPartialEq.TheImpl as position_report_two
use Rattle.etcs_track.specs.contracts.train_other.TrainOtherPartialEq.TheImpl as train_other
use Rattle.etcs_track.specs.contracts.train_packet.TrainPacket as packet
use Rattle.etcs_track.specs.contracts.train_packet.TrainPacketPartialEq.TheImpl as packet_eq

pub located_exact : (a b : Located) → Decides (located.ghosts.eq a b) (a ≡ b)
located_exact =
    fields_exact
    (λ (p : Located). (p.d_lrbg, (p.q_dirlrbg, (p.q_dlrbg, (p.l_doubtover, (p.l_doubtunder, (p.q_length, (p.l_trainint, (p.v_train, (p.q_dirtrain, (p.m_mode, (p.m_level, p.nid_ntc))))))))))))
    (λ n. located_value n.0 n.1.0 n.1.1.0 n.1.1.1.0 n.1.1.1.1.0 n.1.1.1.1.1.0 n.1.1.1.1.1.1.0 n.1.1.1.1.1.1.1.0 n.1.1.1.1.1.1.1.1.0 n.1.1.1.1.1.1.1.1.1.0 n.1.1.1.1.1.1.1.1.1.1.0 n.1.1.1.1.1.1.1.1.1.1.1)
    (λ p. refl) (
    both_exact number_exact (
    both_exact number_exact (
    both_exact number_exact (
    both_exact number_exact (
    both_exact number_exact (
    both_exact number_exact (
    both_exact (option_exact number_exact) (
    both_exact number_exact (
    both_exact number_exact (
    both_exact number_exact (
    both_exact number_exact (
    option_exact number_exact))))))))))))

pub position_report_exact : (a b : PositionReport) → Decides (position_report.ghosts.eq a b) (a ≡ b)
position_report_exact =
    fields_exact (λ (p : PositionReport). (p.q_scale, (p.nid_lrbg, p.located))) (λ n. position_report_value n.0 n.1.0 n.1.1) (λ p. refl) (
    both_exact number_exact (both_exact number_exact located_exact))

pub position_report_two_exact : (a b : PositionReportTwo) → Decides (position_report_two.ghosts.eq a b) (a ≡ b)
position_report_two_exact =
    fields_exact (λ (p : PositionReportTwo). (p.q_scale, (p.nid_lrbg, (p.nid_prvlrbg, p.located)))) (λ n. position_report_two_value n.0 n.1.0 n.1.1.0 n.1.1.1) (λ p. refl) (
    both_exact number_exact (both_exact number_exact (both_exact number_exact located_exact)))

pub train_flat_exact : IsExact (pointwise nat_eq)
train_flat_exact = list_exact number_exact

pub train_other_exact : IsExact train_other.ghosts.eq
train_other_exact = fields_exact (λ (p : TrainOther). (p.nid, p.body)) (λ n. train_other_value n.0 n.1) (λ p. refl) (both_exact number_exact (list_exact flag_exact))

pub train_packet_exact : IsExact packet_eq.ghosts.eq
train_packet_exact a b = enum_exact packet.enum _ (one position_report_exact, (one position_report_two_exact, (one train_flat_exact, (one train_flat_exact, (one train_other_exact, tt))))) a b
