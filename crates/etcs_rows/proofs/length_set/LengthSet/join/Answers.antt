use Rattle.std.proofs.Common.{arith}
use Rattle.etcs_rows.proofs.SetLemmas.{join_holds}
use Rattle.etcs_rows.proofs.length_set.LengthSet.join.Goals as goal

pub returns : goal.returns
returns c = λ m. join_holds c.args.self.now c.args.other.now (record { words = c.joined.result }) (omega arith) (omega arith) c.joined.ensures m
