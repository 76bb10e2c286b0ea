use Rattle.std.proofs.Common.{sym, ◌∙◌, arith}
use Rattle.etcs_sequence.proofs.KindBits.{packet_least, number_said}
use Rattle.etcs_sequence.proofs.packet_ref.PacketRef.nid.Goals as goal

pub number_in-requires-clause-inside : goal.number_in-requires-clause-inside
number_in-requires-clause-inside c = omega (arith, packet_least c.self.inside.bits c.self.invariant)

pub returns : goal.returns
returns c = λ v h e. c.number_in.ensures.value ∙ number_said v c.self.inside.bits h (e ∙ sym c.self.view_is)
