use Rattle.etcs_tables.specs.declared.row.Way.TheVariants.{ToTrack}
use Rattle.etcs_track.specs.TrackPackets.{track_form}
use Rattle.etcs_packets.proofs.Outcomes.{ok_bits}
use Rattle.etcs_track.proofs.any_packet.TrainPacketAnyPacket.of_bits.Goals as goal

pub returns : goal.returns
returns c = ok_bits track_form ToTrack c.args.nid c.args.dir c.args.body c.of_number.result c.of_number.ensures
