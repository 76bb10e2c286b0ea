use Rattle.std.proofs.Common.{length}
use Rattle.etcs_rows.proofs.fitting.+waiting_steps.Given as goal

abbrev pub decreases-waiting_steps : goal.decreases-waiting_steps
decreases-waiting_steps l = length l.waiting.now
