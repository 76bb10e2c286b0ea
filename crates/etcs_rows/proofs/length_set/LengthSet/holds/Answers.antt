use Rattle.std.proofs.Common.{arith}
use Rattle.std.proofs.lemmas.Bool.{ltb-true}
use Rattle.etcs_rows.proofs.SetLemmas.{tested, in_small}
use Rattle.etcs_rows.proofs.length_set.LengthSet.holds.Goals as goal

pub returns-then-number-lt8192 : goal.returns-then-number-lt8192
returns-then-number-lt8192 c = tested c.args.self.now c.args.number

pub returns-else-number-lt8192 : goal.returns-else-number-lt8192
returns-else-number-lt8192 c = (
  λ h. absurd (let t = ltb-true c.args.number 8192 h in omega arith),
  λ h. absurd (let t = in_small c.args.self.now c.args.number (omega arith) h in omega arith),
)
