use Rattle.std.proofs.Common.{refl, sym}
use Rattle.etcs_rows.proofs.StepLemmas.{plus_one, plus_other, plus_same}
use Rattle.etcs_rows.proofs.progression.Progression.plus.Goals as goal

pub returns-then-other-eq0 : goal.returns-then-other-eq0
returns-then-other-eq0 c = plus_one c.args.self c.args.other _ c.if-other-eq0.true c.in_ok-first.ensures.1 refl refl

pub returns-then-self-eq0 : goal.returns-then-self-eq0
returns-then-self-eq0 c = plus_other c.args.self c.args.other _ c.if-self-eq0.true c.in_ok-first.ensures.1 refl refl

pub returns : goal.returns
returns c = plus_same c.args.self c.args.other _ (sym c.if-self-other.false) c.in_ok-first.ensures.1 refl c.in_ok-count.ensures.1
