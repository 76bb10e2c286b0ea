use Rattle.etcs_sequence.proofs.Padding.{padded}
use Rattle.etcs_sequence.proofs.state.after_packet.Goals as goal

pub returns-then-room-le-MOST_PADDING-clause-same : goal.returns-then-room-le-MOST_PADDING-clause-same
returns-then-room-le-MOST_PADDING-clause-same c = rw c.in-Message.is (padded c.in-Message.field-0 c.args.room c.if-room-le-MOST_PADDING.true)
