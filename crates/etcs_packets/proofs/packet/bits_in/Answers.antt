use Rattle.etcs_packets.proofs.packet.bits_in.Goals as goal

pub returns-in-ModeProfile-clause-bits : goal.returns-in-ModeProfile-clause-bits
returns-in-ModeProfile-clause-bits c = rw c.in-ModeProfile.is c.typed_bits-in-ModeProfile.ensures.bits
