-- What a call that takes bytes of a line did.
use Rattle.std.specs.Prelude.{ℕ, Bool, List}
use Rattle.etcs_log.specs.declared.lines.Answers.{Answers}
use Rattle.etcs_log.specs.Candidates.{Candidate}
use Rattle.etcs_log.specs.Logs.{Tried}

-- it tried these of the line: from the one to the other state, and the one to the other text
abbrev pub Tries : Answers → Answers → List ℕ → List ℕ → List Candidate → Bool → Type 0
Tries before after text text' cs taken = Tried cs taken before.job before.line before.seen after.seen text text'
