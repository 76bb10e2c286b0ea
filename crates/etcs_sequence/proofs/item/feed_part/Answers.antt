use Rattle.std.proofs.Common.{[]}
use Rattle.etcs_sequence.proofs.Feeding.{still_reads}
use Rattle.etcs_sequence.proofs.item.feed_part.Goals as goal

pub feed_after-after-requires-clause-part : goal.feed_after-after-requires-clause-part
feed_after-after-requires-clause-part g c = rw c.in-Some.is at (rw (← c.replace.ensures.value) at c.requires.part)

pub feed_next-requires-clause-stop : goal.feed_next-requires-clause-stop
feed_next-requires-clause-stop g c = (still_reads c.requires.item.readable c.args.feeder.now [] c.requires.reading).0

pub feed_next-requires-clause-next : goal.feed_next-requires-clause-next
feed_next-requires-clause-next g c = (still_reads c.requires.item.readable c.args.feeder.now [] c.requires.reading).1
