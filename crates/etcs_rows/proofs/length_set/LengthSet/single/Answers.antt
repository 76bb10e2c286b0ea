use Rattle.std.proofs.Common.{refl, arith}
use Rattle.etcs_rows.proofs.SetLemmas.{single_holds}
use Rattle.etcs_rows.proofs.length_set.LengthSet.single.Goals as goal

pub returns : goal.returns
returns c = λ m. single_holds _ c.args.number (omega arith) refl m
