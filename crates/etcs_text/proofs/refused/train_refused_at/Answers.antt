use Rattle.std.proofs.lemmas.Option.{IfSome_then}
use Rattle.etcs_bits.specs.Bits.{bits}
use Rattle.etcs_tables.specs.declared.row.Way.TheVariants.{ToTrack}
use Rattle.etcs_text.proofs.Refusals.{message_refused}
use Rattle.etcs_text.proofs.refused.train_refused_at.Goals as goal

pub returns : goal.returns
returns c = IfSome_then c.refused_at.result c.refused_at.ensures (λ t h. message_refused ToTrack (bits c.args.bytes.now) t.0 t.1 h)
