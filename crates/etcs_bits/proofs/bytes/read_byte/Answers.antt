use Rattle.etcs_bits.proofs.ByteBits.{byte_read}
use Rattle.etcs_bits.proofs.bytes.read_byte.Goals as goal

pub returns : goal.returns
returns c = byte_read c.args.byte c.from.result c.args.offset c.args.width c.from.ensures c.requires
