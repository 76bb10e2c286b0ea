use Rattle.std.proofs.Common.{refl}
use Rattle.etcs_rows.proofs.TotalLemmas.{total_with}
use Rattle.etcs_rows.proofs.total.Total.with_times.Goals as goal

pub returns-in-None : goal.returns-in-None
returns-in-None c = total_with c.args.self _ c.args.times.group c.args.times.first c.args.times.last c.in-None.is refl refl refl
