use Rattle.std.proofs.Common.{ap, length, arith}
use Rattle.etcs_bits.proofs.many.Many.new.Goals as goal

pub invariant_of-result : goal.invariant_of-result
invariant_of-result c = omega (arith, ap length c.new.ensures.items)
