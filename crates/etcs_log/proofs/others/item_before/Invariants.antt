use Rattle.std.proofs.Common.{◌≡◌, ◌∷◌, ℕ, List, length}
use Rattle.etcs_runs.specs.RunTexts.{runs_from}
use Rattle.etcs_log.specs.Candidates.{AreNone, line_candidates}
use Rattle.etcs_log.specs.Walks.{Walks, texts_of}
use Rattle.etcs_log.proofs.others.item_before.Given as goal

abbrev pub invariant-runs : goal.invariant-runs
invariant-runs l = (seen : List (List ℕ)) × Walks (runs_from l.fn.run) (l.fn.run.text.now ∷ seen) l.next l.buffer × AreNone (line_candidates l.fn.kinds seen)

abbrev pub decreases-runs : goal.decreases-runs
decreases-runs l = length (texts_of l.next)
