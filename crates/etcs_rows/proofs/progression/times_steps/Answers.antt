use Rattle.std.proofs.Common.{refl, arith}
use Rattle.etcs_rows.proofs.StepSums.{counted_steps, same_times}
use Rattle.etcs_rows.proofs.progression.times_steps.Goals as goal

pub returns-then-first-last : goal.returns-then-first-last
returns-then-first-last c = same_times c.args.group c.times.result c.args.first c.args.last c.if-first-last.true c.times.ensures

pub returns : goal.returns
returns c = counted_steps c.args.group _ c.args.first c.args.last (omega arith) c.requires c.in_ok-fewest.ensures.1 refl refl
