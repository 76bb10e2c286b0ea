use Rattle.std.proofs.Common.{sym, ◌∙◌}
use Rattle.etcs_track.specs.TrackPackets.{track_value}
use Rattle.etcs_track.specs.laws.TrackPackets.{track_bits}
use Rattle.etcs_track.proofs.train_packet.TrainPacket.bit_len.Goals as goal

pub returns-clause-spelling : goal.returns-clause-spelling
returns-clause-spelling c = c.bits_in.ensures.bits ∙ sym (track_bits (track_value c.args.self.now))
