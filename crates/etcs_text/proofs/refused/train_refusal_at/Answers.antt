use Rattle.etcs_bits.specs.Bits.{bits}
use Rattle.etcs_tables.specs.declared.row.Way.TheVariants.{ToTrack}
use Rattle.etcs_rows.proofs.RefusalLemmas.{finds_same}
use Rattle.etcs_messages.specs.Lefts.{Left}
use Rattle.etcs_messages.specs.Messages.{MessageLanguage}
use Rattle.etcs_messages.proofs.Bytes.{some_message}
use Rattle.etcs_text.proofs.refused.train_refusal_at.Goals as goal

pub refusal_in-requires-clause-goes : goal.refusal_in-requires-clause-goes
refusal_in-requires-clause-goes c =
    let (r, some) = some_message ToTrack in
    (r, (c.counted-rest.ensures r).1 some)

pub returns : goal.returns
returns c = finds_same (Left c.counted-rest.result) (MessageLanguage ToTrack) c.counted-rest.ensures (bits c.args.bytes.now) c.refusal_in.result c.refusal_in.ensures
