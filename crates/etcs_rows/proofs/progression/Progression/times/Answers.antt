use Rattle.std.proofs.Common.{refl}
use Rattle.etcs_rows.proofs.StepLemmas.{times_steps}
use Rattle.etcs_rows.proofs.progression.Progression.times.Goals as goal

pub returns : goal.returns
returns c = times_steps c.args.times c.args.self _ c.in_ok-first.ensures.1 refl c.in_ok-count.ensures.1
