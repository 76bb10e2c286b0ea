use Rattle.std.proofs.Common.{refl}
use Rattle.etcs_rows.proofs.TotalLemmas.{total_new}
use Rattle.etcs_rows.proofs.total.Total.new.Goals as goal

pub returns : goal.returns
returns c = total_new _ c.args.steps c.args.slack refl refl refl
