use Rattle.etcs_bits.specs.Bits.{bits}
use Rattle.etcs_text.proofs.AccountOutcomes.{outcome_read, up_to_read}
use Rattle.etcs_text.proofs.pairs.read_pairs.Goals as goal

pub returns-clause-outcome : goal.returns-clause-outcome
returns-clause-outcome c = outcome_read c.args.kind (bits c.args.bytes.now) c.read.result c.read.ensures

pub returns-clause-before : goal.returns-clause-before
returns-clause-before c = up_to_read c.args.kind (bits c.args.bytes.now) c.read.result c.read.ensures
