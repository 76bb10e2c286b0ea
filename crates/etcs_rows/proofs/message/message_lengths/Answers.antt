use Rattle.etcs_rows.proofs.MessageLengths.{lengths_fit, lengths_ordered}
use Rattle.etcs_rows.proofs.message.message_lengths.Goals as goal

pub returns-clause-fits : goal.returns-clause-fits
returns-clause-fits c = λ l. rw c.message_ranges.ensures (lengths_fit c.args.way c.args.nid l)

pub returns-clause-ordered : goal.returns-clause-ordered
returns-clause-ordered c = rw c.message_ranges.ensures (lengths_ordered c.args.way c.args.nid)
