use Rattle.std.proofs.Common.{refl}
use Rattle.etcs_rows.proofs.StepLemmas.{one_number}
use Rattle.etcs_rows.proofs.progression.Progression.single.Goals as goal

pub returns : goal.returns
returns c = one_number _ refl
