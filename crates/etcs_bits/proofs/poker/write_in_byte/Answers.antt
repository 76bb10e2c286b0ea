use Rattle.std.proofs.Common.{◌*◌, ◌+◌, refl, arith}
use Rattle.etcs_bits.specs.Bits.{num}
use Rattle.etcs_bits.proofs.Numbers.{length-num}
use Rattle.etcs_bits.proofs.ByteBits.{bits-set}
use Rattle.etcs_bits.proofs.poker.write_in_byte.Goals as goal

pub returns : goal.returns
returns c = bits-set c.args.bytes.now c.args.at (8 * c.args.at + c.args.offset) c.args.offset c.with_number.result (num c.args.width c.args.value) c.requires.byte refl (omega (arith, length-num c.args.width c.args.value, c.requires.inside)) c.with_number.ensures
