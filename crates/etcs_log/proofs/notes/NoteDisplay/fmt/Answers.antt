use Rattle.etcs_log.specs.Notes.{reason}
use Rattle.etcs_log.proofs.notes.NoteDisplay.fmt.Goals as goal

pub returns-in-OddDigits-clause-writes : goal.returns-in-OddDigits-clause-writes
unfolding reason
returns-in-OddDigits-clause-writes g c = rw c.in-OddDigits.is (λ p k. rw c.plural.ensures at c.write.ensures.writes p k)
