use Rattle.etcs_track.specs.laws.OneTrackPacket.{one_packet}
use Rattle.etcs_track.proofs.laws.one_packet.Goals as goal

pub returns : goal.returns
returns c = one_packet c.args.first.now c.args.second.now c.hold.ensures.made c.hold-2.ensures.made
