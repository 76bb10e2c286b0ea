use Rattle.std.proofs.lemmas.Option.{IfSome_then}
use Rattle.etcs_tables.specs.declared.row.Way.TheVariants.{ToTrain}
use Rattle.etcs_text.proofs.SeenItems.{message_front}
use Rattle.etcs_text.proofs.seen.radio_seen.Goals as goal

pub returns-clause-reads : goal.returns-clause-reads
returns-clause-reads c = IfSome_then c.either_seen.result c.either_seen.ensures.reads (λ n h. message_front ToTrain c.args.piece.now n h)
