use Rattle.std.proofs.Common.{◌≡◌, ◌∷◌, ℕ, List, length}
use Rattle.etcs_runs.specs.RunTexts.{runs_from}
use Rattle.etcs_log.specs.Candidates.{AreNone, line_candidates}
use Rattle.etcs_log.specs.Reports.{AreReports}
use Rattle.etcs_log.specs.Walks.{Walks, texts_of}
use Rattle.etcs_log.proofs.lines.Answers.take_before.Given as goal

abbrev pub invariant-runs : goal.invariant-runs
invariant-runs l =
    (l.self.job ≡ l.fn.self.job)
    × (l.self.line ≡ l.fn.self.line)
    × (l.self.seen ≡ l.fn.self.seen)
    × (l.text.items ≡ l.fn.text.items)
    × ((seen : List (List ℕ)) × Walks (runs_from l.fn.last) (l.fn.last.text.now ∷ seen) l.next l.buffer × AreNone (line_candidates l.fn.self.job.kinds (l.fn.last.text.now ∷ seen)) × AreReports l.fn.self.job.kinds (l.fn.last.text.now ∷ seen) l.reports)

abbrev pub decreases-runs : goal.decreases-runs
decreases-runs l = length (texts_of l.next)
