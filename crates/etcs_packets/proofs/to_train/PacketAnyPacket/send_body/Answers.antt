use Rattle.etcs_packets.proofs.to_train.PacketAnyPacket.send_body.Goals as goal

pub returns-in-ModeProfile-clause-ok : goal.returns-in-ModeProfile-clause-ok
returns-in-ModeProfile-clause-ok g c = rw c.in-ModeProfile.is c.send-in-ModeProfile.ensures.ok
