use Rattle.std.proofs.Common.{refl}
use Rattle.etcs_rows.proofs.SetLemmas.{empty_holds}
use Rattle.etcs_rows.proofs.length_set.LengthSet.empty.Goals as goal

pub returns : goal.returns
returns c = λ m. empty_holds _ m refl
