use Rattle.etcs_rows.proofs.StepLemmas.{near_under, near_one, near_steps}
use Rattle.etcs_rows.proofs.progression.Progression.near.Goals as goal

pub returns-then-number-self : goal.returns-then-number-self
returns-then-number-self c = near_under c.args.self c.args.slack c.args.number c.if-number-self.true

pub returns-then-self-eq0 : goal.returns-then-self-eq0
returns-then-self-eq0 c = near_one c.args.self c.args.slack c.args.number c.if-number-self.false c.if-self-eq0.true

pub returns : goal.returns
returns c = near_steps c.args.self c.args.slack c.args.number c.min-index.result c.if-number-self.false c.if-self-eq0.false c.min-index.ensures
