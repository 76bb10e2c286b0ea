use Rattle.etcs_tables.specs.declared.row.Way.TheVariants.{ToTrack}
use Rattle.etcs_track.specs.TrackPackets.{track_form}
use Rattle.etcs_packets.proofs.Outcomes.{ok_left}
use Rattle.etcs_track.proofs.any_packet.TrainPacketAnyPacket.of_source.Goals as goal

pub returns : goal.returns
returns g c = ok_left track_form ToTrack c.args.nid c.args.dir (g.S.Source.left c.args.source.now) c.of_number.result c.of_number.ensures
