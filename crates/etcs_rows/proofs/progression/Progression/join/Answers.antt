use Rattle.std.proofs.Common.{arith}
use Rattle.etcs_rows.proofs.StepLemmas.{join_one}
use Rattle.etcs_rows.proofs.progression.Progression.join.Goals as goal

pub returns-else-more-gt0 : goal.returns-else-more-gt0
returns-else-more-gt0 c = rw c.in-Some.is (join_one c.in-Some.steps c.args.more c.with.result (omega arith) c.with.ensures)
