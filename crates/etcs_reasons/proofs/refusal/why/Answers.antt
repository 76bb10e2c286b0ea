use Rattle.etcs_reasons.proofs.refusal.why.Goals as goal

pub returns-in_default-clause-none : goal.returns-in_default-clause-none
returns-in_default-clause-none c none = rw c.in_default.is at c.refusal_at.ensures

pub returns-clause-some : goal.returns-clause-some
returns-clause-some c = rw c.in-Some.is at c.refusal_at.ensures
