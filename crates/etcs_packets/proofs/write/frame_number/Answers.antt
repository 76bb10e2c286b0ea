use Rattle.etcs_packets.proofs.PacketBits.{frame_number}
use Rattle.etcs_packets.proofs.write.frame_number.Goals as goal

pub returns : goal.returns
returns c = rw (c.from.ensures, c.from-2.ensures) (frame_number c.args.nid c.args.dir c.args.len c.requires.dir c.requires.len)
