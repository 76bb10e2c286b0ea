use Rattle.std.proofs.Common.{refl}
use Rattle.etcs_rows.proofs.TotalLemmas.{total_steps}
use Rattle.etcs_rows.proofs.total.Total.with_steps.Goals as goal

pub returns : goal.returns
returns c = total_steps c.args.self _ c.args.steps refl refl refl
