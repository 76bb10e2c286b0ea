use Rattle.std.proofs.Common.{arith}
use Rattle.etcs_bits.proofs.Positions.{length-bits}
use Rattle.etcs_vars.proofs.bit_page.BitPage.put.Goals as goal

pub invariant_of-self : goal.invariant_of-self
invariant_of-self c = omega (arith, length-bits c.put_after.new.bytes, c.put_after.auto.bytes, c.self.told, c.requires.width, c.if-len-gt-BYTES.false)
