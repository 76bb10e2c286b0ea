use Rattle.etcs_tables.specs.declared.row.Way.TheVariants.{ToTrack}
use Rattle.etcs_track.specs.TrackPackets.{track_form}
use Rattle.etcs_packets.proofs.Outcomes.{ok_numbers}
use Rattle.etcs_track.proofs.any_packet.TrainPacketAnyPacket.of_fields.Goals as goal

pub returns : goal.returns
returns c = ok_numbers track_form ToTrack c.args.nid c.args.dir c.args.fields.now c.of_number.result c.of_number.ensures
