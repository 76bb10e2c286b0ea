use Rattle.std.proofs.Common.{arith}
use Rattle.etcs_packet_text.proofs.Places.{front_put}
use Rattle.etcs_packet_text.proofs.page.place.put_front.Goals as goal

pub returns-clause-bytes : goal.returns-clause-bytes
returns-clause-bytes c = front_put c.args.at c.args.front.len c.args.place.now c.copy_from_slice.new.self c.args.front.bytes _ (omega arith) (omega (arith, c.requires.len)) c.copy_from_slice.ensures.after
