use Rattle.etcs_bits.specs.Bits.{bits}
use Rattle.etcs_rows.proofs.RefusalLemmas.{finds_same}
use Rattle.etcs_telegram.specs.Lefts.{Left}
use Rattle.etcs_telegram.specs.Telegrams.{TelegramLanguage}
use Rattle.etcs_telegram.proofs.Examples.{some_telegram}
use Rattle.etcs_telegram.proofs.refused.refusal_at.Goals as goal

pub refusal_in-requires-clause-goes : goal.refusal_in-requires-clause-goes
refusal_in-requires-clause-goes c = let (r, some) = some_telegram c.args.size in (r, (c.new-rest.ensures.left r).1 some)

pub returns : goal.returns
returns c = finds_same (Left c.new-rest.result) (TelegramLanguage c.args.size) c.new-rest.ensures.left (bits c.args.bytes.now) c.refusal_in.result c.refusal_in.ensures
