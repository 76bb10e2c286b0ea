use Rattle.std.proofs.Common.{arith}
use Rattle.std.proofs.lemmas.List.{length-take-le}
use Rattle.etcs_text.proofs.Refusals.{first_bits}
use Rattle.etcs_text.proofs.refused.first.Goals as goal

pub returns-clause-short : goal.returns-clause-short
returns-clause-short c = omega (arith, length-take-le c.min.result c.args.bytes.now (omega (arith, c.min.ensures)), c.min.ensures)

pub returns-clause-bits : goal.returns-clause-bits
returns-clause-bits c = first_bits c.args.bytes.now c.min.result c.min.ensures
