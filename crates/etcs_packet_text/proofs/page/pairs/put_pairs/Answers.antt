use Rattle.etcs_packet_text.proofs.PairSinks.{first_of_pairs}
use Rattle.etcs_packet_text.proofs.page.pairs.put_pairs.Goals as goal

pub returns-in-len1-up-clause-bytes : goal.returns-in-len1-up-clause-bytes
returns-in-len1-up-clause-bytes c = first_of_pairs _ _ _ c.args.later c.args.sent.now _ c.in-len1-up.len_at_least c.put_pair-end.ensures.bytes c.put_each.ensures.bytes
