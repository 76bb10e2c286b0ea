use Rattle.std.proofs.Common.{arith}
use Rattle.etcs_sequence.proofs.KindBits.{marker_bits, marker_read}
use Rattle.etcs_sequence.proofs.kinds.marker_packet.Goals as goal

pub number_in-requires-clause-inside : goal.number_in-requires-clause-inside
number_in-requires-clause-inside c = omega (arith, marker_bits c.args.bits.now c.requires)

pub returns-clause-bits : goal.returns-clause-bits
returns-clause-bits c = rw c.in-Ok.ensures.ok (marker_read c.args.bits.now c.number_in.result c.requires c.number_in.ensures.value).1
