use Rattle.std.proofs.Common.{inl, inr}
use Rattle.etcs_rows.proofs.StepLemmas.{holds_under, holds_one, holds_steps, holds_between}
use Rattle.etcs_rows.proofs.progression.Progression.holds.Goals as goal
use Rattle.etcs_rows.proofs.progression.Progression.holds.Goals.{then-self-eq0-via-then-self-eq0, then-self-eq0-via-else-self-eq0+then-self-eq0-2}

pub returns-then-number-self : goal.returns-then-number-self
returns-then-number-self c = holds_under c.args.self c.args.number c.if-number-self.true

pub returns-then-self-eq0 : goal.returns-then-self-eq0
returns-then-self-eq0 c = holds_one c.args.self c.args.number c.if-number-self.false (elim c.then-self-eq0.branch [
  | then-self-eq0-via-then-self-eq0 w ↦ inl w.if-self-eq0.true
  | then-self-eq0-via-else-self-eq0+then-self-eq0-2 w ↦ inr w.if-self-eq0-2.true
])

pub returns-then-over-self-eq0 : goal.returns-then-over-self-eq0
returns-then-over-self-eq0 c = holds_steps c.args.self c.args.number c.if-number-self.false c.if-self-eq0-2.false c.if-over-self-eq0.true

pub returns-else-over-self-eq0 : goal.returns-else-over-self-eq0
returns-else-over-self-eq0 c = holds_between c.args.self c.args.number c.if-number-self.false c.if-over-self-eq0.false
