use Rattle.etcs_stream.proofs.Streams.{Awaits-fresh}
use Rattle.etcs_stream.proofs.byte_items.ByteItems.new.Goals as goal

pub returns-clause-waits : goal.returns-clause-waits
returns-clause-waits c = Awaits-fresh c.args.job.kind c.new.result c.new.ensures
