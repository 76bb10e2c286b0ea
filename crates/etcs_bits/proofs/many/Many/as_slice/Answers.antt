use Rattle.std.proofs.Common.{ap, length, arith}
use Rattle.etcs_bits.specs.Bits.{bits}
use Rattle.etcs_bits.proofs.Positions.{length-bits}
use Rattle.etcs_bits.proofs.many.Many.as_slice.Goals as goal

pub whole-requires : goal.whole-requires
whole-requires c = omega (arith, c.self.invariant, length-bits c.self.inside.bytes.items, ap (λ l. length (bits l)) c.as_slice.ensures.value)
