use Rattle.etcs_rows.proofs.NearLemmas.{last_under, last_one, last_steps}
use Rattle.etcs_rows.proofs.progression.Progression.last_to.Goals as goal

pub returns-then-number-self : goal.returns-then-number-self
returns-then-number-self c = last_under c.args.self c.args.number c.if-number-self.true

pub returns-then-self-eq0 : goal.returns-then-self-eq0
returns-then-self-eq0 c = last_one c.args.self c.args.number c.if-number-self.false c.if-self-eq0.true

pub returns : goal.returns
returns c = last_steps c.args.self c.args.number c.min-index.result c.if-number-self.false c.if-self-eq0.false c.min-index.ensures
