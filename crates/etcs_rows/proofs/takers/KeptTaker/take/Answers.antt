use Rattle.std.proofs.Common.{refl}
use Rattle.etcs_rows.proofs.TotalLemmas.{sums_more}
use Rattle.etcs_rows.proofs.takers.KeptTaker.take.Goals as goal

pub returns-in-Ok : goal.returns-in-Ok
returns-in-Ok c = (refl, λ m l. sums_more c.args.self.now.sums.items c.try_push.new.self.items c.args.sum m c.in-Ok.ensures.ok)
