use Rattle.std.proofs.Common.{refl}
use Rattle.etcs_rows.proofs.TotalLemmas.{total_plus}
use Rattle.etcs_rows.proofs.total.Total.plus.Goals as goal

pub returns : goal.returns
returns c = total_plus c.args.self _ c.args.more refl refl c.in_ok-steps.ensures
