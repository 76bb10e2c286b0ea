use Rattle.std.proofs.Common.{arith}
use Rattle.etcs_packet_text.proofs.Texts.{few_put}
use Rattle.etcs_packet_text.proofs.page.bits.put_few.Goals as goal

pub returns-clause-bytes : goal.returns-clause-bytes
returns-clause-bytes c = few_put c.args.at c.args.width c.args.number c.put_byte.result c.args.place.now c.put_byte.new.place c.requires.width (omega arith) c.put_byte.ensures.end c.put_byte.ensures.bytes
