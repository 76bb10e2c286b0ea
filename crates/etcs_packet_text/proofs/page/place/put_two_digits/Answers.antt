use Rattle.std.proofs.Common.{[]}
use Rattle.etcs_packet_text.proofs.Decimals.{two_put}
use Rattle.etcs_packet_text.proofs.page.place.put_two_digits.Goals as goal

pub returns-clause-bytes : goal.returns-clause-bytes
returns-clause-bytes c = two_put c.args.at c.args.number c.args.place.now [] c.requires.small c.requires.room
