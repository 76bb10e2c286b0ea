use Rattle.std.proofs.Common.{refl}
use Rattle.etcs_rows.proofs.NearLemmas.{first_over, first_one, first_past, first_steps}
use Rattle.etcs_rows.proofs.progression.Progression.first_from.Goals as goal

pub returns-then-number-self : goal.returns-then-number-self
returns-then-number-self c = first_over c.args.self c.args.number c.if-number-self.true

pub returns-then-self-eq0 : goal.returns-then-self-eq0
returns-then-self-eq0 c = first_one c.args.self c.args.number c.if-number-self.false c.if-self-eq0.true

pub returns-then-index-self : goal.returns-then-index-self
returns-then-index-self c = first_past c.args.self c.args.number _ c.if-number-self.false c.if-self-eq0.false refl c.if-index-self.true

pub returns : goal.returns
returns c = first_steps c.args.self c.args.number _ c.in_ok-at.field-0 c.if-number-self.false c.if-self-eq0.false refl c.if-index-self.false c.in_ok-at.ensures
