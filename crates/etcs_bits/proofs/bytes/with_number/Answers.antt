use Rattle.std.proofs.Common.{arith}
use Rattle.etcs_bits.proofs.ByteBits.{number_fits, number_written}
use Rattle.etcs_bits.proofs.bytes.with_number.Goals as goal

pub overflow_cast-result : goal.overflow_cast-result
overflow_cast-result c = omega (arith, number_fits c.args.offset c.args.width c.args.byte c.from-byte.result c.args.value c.from-byte.ensures (omega arith) c.requires.inside c.requires.fits)

pub returns : goal.returns
returns c = number_written c.args.offset c.args.width c.args.byte c.from-byte.result c.args.value c.from-byte.ensures (omega arith) c.requires.inside c.requires.fits
