use Rattle.etcs_reasons.proofs.refusal.write_refused.Goals as goal

pub returns-in-Some : goal.returns-in-Some
returns-in-Some c i x refuses = c.write_spare.ensures c.write_refusal.ensures

pub returns-in_default : goal.returns-in_default
returns-in_default c i x refuses = absurd ((rw c.in_default.is at c.refusal_at.ensures) i x refuses)
