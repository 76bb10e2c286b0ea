use Rattle.etcs_text.proofs.SeenItems.{telegram_front}
use Rattle.etcs_text.proofs.seen.telegram_seen.Goals as goal

pub returns-clause-reads : goal.returns-clause-reads
returns-clause-reads c = rw c.container_bytes.ensures (telegram_front c.args.size c.args.piece.now _ (c.sees.ensures.reads c.if-not-sees.false))
