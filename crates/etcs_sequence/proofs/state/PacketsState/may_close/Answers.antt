use Rattle.std.proofs.lemmas.Bool.{leb-true}
use Rattle.etcs_sequence.proofs.LeapLemmas.{closing_starts}
use Rattle.etcs_sequence.proofs.state.PacketsState.may_close.Goals as goal

pub returns-in-Telegram : goal.returns-in-Telegram
returns-in-Telegram c = λ yes. rw c.requires.stage (closing_starts c.args.self.now.carrier c.args.self.now.room c.in-Telegram.is (leb-true 8 c.args.self.now.room yes))
